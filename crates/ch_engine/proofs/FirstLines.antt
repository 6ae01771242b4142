-- The first lines of least weight, while lines are found one after the other.
use Rattle.std.proofs.Common.{◌≡◌, ◌≢◌, ℕ, ◌+◌, ◌<◌, ◌≤◌, List, length, get_or, inl, inr, sym, ◌∙◌, ap, subst, arith}
use Rattle.std.specs.Prelude.{◌⊎◌}
use Rattle.std.proofs.lemmas.Bool.{cases_eq, cases_lt}
use Rattle.ch_graph.specs.declared.arc.InArc.{InArc}
use Rattle.ch_graph.specs.declared.limits.TheConstants.{MOST_ARCS}
use Rattle.ch_hierarchy.specs.declared.side.Side.{Side}
use Rattle.ch_engine.specs.Lines.{IsBetter, IsLineWord, IsSeen, Precedes, arc_on, far_end, no_line}

-- what precedes goes on from line to line
precedes_on : (arcs : List InArc) (i j k : ℕ) → Precedes arcs i j → Precedes arcs j k → Precedes arcs i k
precedes_on arcs i j k first then = elim first [
  | inl less ↦ elim then [
    | inl more ↦ inl (omega arith)
    | inr same ↦ inl (omega (arith, less, same.0))
  ]
  | inr same ↦ elim then [
    | inl more ↦ inl (omega (arith, same.0, more))
    | inr both ↦ inr (same.0 ∙ both.0, omega (arith, same.1, both.1))
  ]
]

-- the same line serves for the same lines under another name
pub word_for : (arcs : List InArc) (P Q : ℕ → Type 0) (word : ℕ) → ((k : ℕ) → P k → Q k) → ((k : ℕ) → Q k → P k) → IsLineWord arcs P word →
    IsLineWord arcs Q word
word_for arcs P Q word to from best = elim best [
  | inl first ↦ inl (record { is = to word first.is; least = λ k q. first.least k (from k q) })
  | inr none ↦ inr (none.0, λ k q. none.1 k (from k q))
]

-- the word of a line that is found is a line, or none
pub line_or_none : (arcs : List InArc) (P : ℕ → Type 0) (word : ℕ) → ((k : ℕ) → P k → k < length arcs) → IsLineWord arcs P word →
    (word ≡ no_line) ⊎ (word < length arcs)
line_or_none arcs P word low best = elim best [
  | inl first ↦ inr (low word first.is)
  | inr none ↦ inl none.0
]

-- with one line more
word_more : (arcs : List InArc) (P : ℕ → Type 0) (word line result : ℕ) → length arcs ≤ MOST_ARCS →
    ((k : ℕ) → P k → k < length arcs) → IsLineWord arcs P word → IsBetter arcs word line result →
    IsLineWord arcs (λ k. P k ⊎ (k ≡ line)) result
word_more arcs P word line result few low best better = elim best [
  | inl first ↦ inl (record {
    is = elim better.one [
      | inl new ↦ inr new
      | inr old ↦ inl (subst P (sym old.0) first.is)
    ];
    least = λ k among. elim among [
      | inl p ↦ precedes_on arcs result word k (better.before_word (λ none. let inside = low word first.is in omega arith))
          (first.least k p)
      | inr same ↦ subst (Precedes arcs result) (sym same) better.before_line
    ];
  })
  | inr none ↦ inl (record {
    is = elim better.one [
      | inl new ↦ inr new
      | inr old ↦ absurd (old.1 none.0)
    ];
    least = λ k among. elim among [
      | inl p ↦ absurd (none.1 k p)
      | inr same ↦ subst (Precedes arcs result) (sym same) better.before_line
    ];
  })
]

module _ (arcs : List InArc) (side : Side) (seen : List ℕ) (i x : ℕ) where
  -- the lines among the first i stay among more
  seen_on : (line : ℕ) → IsSeen arcs side seen i x line → IsSeen arcs side seen (i + 1) x line
  seen_on line (j, low, is, far) = (j, omega (arith, low), is, far)

  -- a line among the first i + 1 is among the first i, or it is the last
  seen_last : (line : ℕ) → IsSeen arcs side seen (i + 1) x line →
      IsSeen arcs side seen i x line ⊎ ((line ≡ get_or seen i 0) × (far_end side (arc_on arcs line) ≡ x))
  seen_last line (j, low, is, far) = elim (cases_lt j i) [
    | inl less ↦ inl (j, less, is, far)
    | inr past ↦ (let same : j ≡ i = omega (arith, past, low) in inr (sym is ∙ ap (λ n. get_or seen n 0) same, far))
  ]

  -- one line more is seen, and noted if its other end is x
  pub noted : (word result : ℕ) → length arcs ≤ MOST_ARCS → ((line : ℕ) → IsSeen arcs side seen i x line → line < length arcs) →
      IsLineWord arcs (IsSeen arcs side seen i x) word →
      (x ≡ far_end side (arc_on arcs (get_or seen i 0)) → IsBetter arcs word (get_or seen i 0) result) →
      (x ≢ far_end side (arc_on arcs (get_or seen i 0)) → result ≡ word) → IsLineWord arcs (IsSeen arcs side seen (i + 1) x) result
  noted word result few low best here other = elim (cases_eq x (far_end side (arc_on arcs (get_or seen i 0)))) [
    | inl same ↦ word_for arcs (λ k. IsSeen arcs side seen i x k ⊎ (k ≡ get_or seen i 0)) (IsSeen arcs side seen (i + 1) x) result
        (λ k among. elim among [
          | inl before ↦ seen_on k before
          | inr last ↦ (i, omega arith, sym last, subst (λ n. far_end side (arc_on arcs n) ≡ x) (sym last) (sym same))
        ])
        (λ k among. elim (seen_last k among) [
          | inl before ↦ inl before
          | inr last ↦ inr last.0
        ])
        (word_more arcs (IsSeen arcs side seen i x) word (get_or seen i 0) result few low best (here same))
    | inr away ↦ word_for arcs (IsSeen arcs side seen i x) (IsSeen arcs side seen (i + 1) x) result seen_on
        (λ k among. elim (seen_last k among) [
          | inl before ↦ before
          | inr last ↦ absurd (away (sym last.1 ∙ ap (λ n. far_end side (arc_on arcs n)) last.0))
        ])
        (subst (IsLineWord arcs (IsSeen arcs side seen i x)) (sym (other away)) best)
  ]
