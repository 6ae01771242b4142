-- Each list of bytes names one value or has one fault, and not both.
use Rattle.std.proofs.Common.{◌≡◌, ℕ, zero, suc, ◌-◌, ◌<◌, ◌⊎◌, inl, inr, false, ltb, List, length, map, Option, Some, None, refl}
use Rattle.std.proofs.Common.{sym, ◌∙◌, ap, arith}
use Rattle.std.specs.Prelude.{option_map}
use Rattle.std.proofs.Math.Nat.{eq-or-lt_of_le}
use Rattle.std.proofs.lemmas.Bool.{cases_order}
use Rattle.std.proofs.lemmas.Bool.Decides.{nat_tests}
use Rattle.std.proofs.lemmas.Option.{none-some, same_Some}
use Rattle.ch_graph.specs.Graph.{Network}
use Rattle.ch_graph.specs.Saved.{OrderAndLegs}
use Rattle.ch_read.specs.declared.fault.FaultKind.TheVariants.{NoProblem}
use Rattle.ch_read.specs.declared.fault.ReadFault.{ReadFault}
use Rattle.ch_read.specs.declared.form.Form.{Form}
use Rattle.ch_read.specs.declared.form.Form.TheVariants.{Graph, Queries, Nodes, Saved}
use Rattle.ch_read.specs.declared.form.Part.TheVariants.{First}
use Rattle.ch_read.specs.declared.form.Heading.{Heading}
use Rattle.ch_read.specs.Words.{lines}
use Rattle.ch_read.specs.Forms.{heading_in, items_in, counts_in}
use Rattle.ch_read.specs.Checks.{fault_at, end_fault, first_failing, end_checks, IsAccepted, IsFault}
use Rattle.ch_read.specs.Names.{arc_from, NamesGraph, NamesQueries, NamesNodes, NamesSaved}
use Rattle.ch_read.specs.Answers.{HasOneAnswer}

-- the fault of the end is at the place after the last line
pub at_end : (form : Form) (all : List (List ℕ)) → fault_at form all (length all) ≡ end_fault form all
at_end form all = let past : ltb (length all) (length all) ≡ false = grind (arith, nat_tests) in rw past refl

-- no place below n has a value, or one is the first that has
module _ {K : Type 0} (f : ℕ → Option K) where
  abbrev pub AreClear : ℕ → Type 0
  AreClear n = (i : ℕ) → i < n → f i ≡ None

  abbrev pub HasFirst : ℕ → Type 0
  HasFirst n = (k : ℕ) × (kind : K) × (k < n) × (f k ≡ Some kind) × AreClear k

  pub clear_more : (n : ℕ) → AreClear n → f n ≡ None → AreClear (suc n)
  clear_more n clear here i lt = at (eq-or-lt_of_le (omega arith))
    where
      at : (i ≡ n) ⊎ (i < n) → f i ≡ None
      at (inl e) = ap f e ∙ here
      at (inr below) = clear i below

  pub clear_or_first : (n : ℕ) → AreClear n ⊎ HasFirst n
  clear_or_first zero = inl (λ i lt. absurd (omega arith))
  clear_or_first (suc n) = at (clear_or_first n) (f n) refl
    where
      at : AreClear n ⊎ HasFirst n → (o : Option K) → f n ≡ o → AreClear (suc n) ⊎ HasFirst (suc n)
      at (inl clear) None e = inl (clear_more n clear e)
      at (inl clear) (Some kind) e = inr (n, kind, omega arith, e, clear)
      at (inr s) o e = inr (s.0, s.1, omega (arith, s.2), s.3, s.4)

-- the bytes are accepted, or they have a fault
pub accepted_or_faulty : (form : Form) (bytes : List ℕ) → IsAccepted form bytes ⊎ ((f : ReadFault) × IsFault form bytes f.line f.kind)
accepted_or_faulty form bytes = at (clear_or_first (fault_at form (lines bytes)) (suc (length (lines bytes))))
  where
    at : AreClear (fault_at form (lines bytes)) (suc (length (lines bytes)))
        ⊎ HasFirst (fault_at form (lines bytes)) (suc (length (lines bytes))) →
        IsAccepted form bytes ⊎ ((f : ReadFault) × IsFault form bytes f.line f.kind)
    at (inl clear) = inl (λ i le. clear i (omega arith))
    at (inr s) =
        let back : suc s.0 - 1 ≡ s.0 = omega arith in
        let within : s.0 < suc (length (lines bytes)) = s.2 in
        inr (
          record { line = suc s.0; kind = s.1 },
          record {
            counted = (omega arith, omega arith);
            kind_is = ap (fault_at form (lines bytes)) back ∙ s.3;
            first = λ i lt. s.4 i (omega arith);
          },
        )

pub not_both : (form : Form) (bytes : List ℕ) (f : ReadFault) → IsAccepted form bytes → IsFault form bytes f.line f.kind → ⊥
not_both form bytes f a is =
    let at = is.counted in
    none-some f.kind (sym (a (f.line - 1) (omega arith)) ∙ is.kind_is)

pub one_fault : (form : Form) (bytes : List ℕ) (f g : ReadFault) → IsFault form bytes f.line f.kind → IsFault form bytes g.line g.kind →
    f ≡ g
one_fault form bytes f g is other = at (cases_order f.line g.line)
  where
    earlier : (f g : ReadFault) → IsFault form bytes f.line f.kind → IsFault form bytes g.line g.kind → f.line < g.line → ⊥
    earlier f g is other lt =
        let within = is.counted in
        none-some f.kind (sym (other.first (f.line - 1) (omega arith)) ∙ is.kind_is)

    at : (f.line ≡ g.line) ⊎ ((f.line < g.line) ⊎ (g.line < f.line)) → f ≡ g
    at (inl e) =
        let same : f.kind ≡ g.kind = same_Some f.kind g.kind
        (sym is.kind_is ∙ ap (λ n. fault_at form (lines bytes) (n - 1)) e ∙ other.kind_is) in
        λ i. record { line = e i; kind = same i }
    at (inr (inl lt)) = absurd (earlier f g is other lt)
    at (inr (inr lt)) = absurd (earlier g f other is lt)

-- an accepted file has a problem line
pub accepted_heading : (form : Form) (bytes : List ℕ) → IsAccepted form bytes → (h : Heading) × (heading_in form (lines bytes) ≡ Some h)
accepted_heading form bytes a =
    at (heading_in form (lines bytes)) refl (sym (at_end form (lines bytes)) ∙ a (length (lines bytes)) (omega arith))
  where
    at : (seen : Option Heading) → heading_in form (lines bytes) ≡ seen →
        first_failing (end_checks seen (counts_in form (lines bytes))) ≡ None →
        (h : Heading) × (heading_in form (lines bytes) ≡ Some h)
    at (Some h) e clear = (h, e)
    at None e clear = absurd (none-some NoProblem (sym clear))

-- a form has one answer if each accepted file has exactly one value
answers : {A : Type 0} (form : Form) (bytes : List ℕ) (Names : A → Type 0) → (IsAccepted form bytes → (x : A) × Names x) →
    ((x y : A) → Names x → Names y → x ≡ y) → ((x : A) → Names x → IsAccepted form bytes) →
    HasOneAnswer Names form bytes
answers form bytes Names value same accepted = record {
  some = elim (accepted_or_faulty form bytes) [ inl a ↦ inl (value a) | inr f ↦ inr f ];
  one_value = same;
  one_fault = one_fault form bytes;
  not_both = λ x f named is. not_both form bytes f (accepted x named) is;
}

pub graph_answer : (bytes : List ℕ) → HasOneAnswer (NamesGraph bytes) Graph bytes
graph_answer bytes = answers Graph bytes (NamesGraph bytes) value same (λ g named. named.accepted)
  where
    value : IsAccepted Graph bytes → (g : Network) × NamesGraph bytes g
    value a =
        let h = accepted_heading Graph bytes a in (
          record { nodes = h.0.nodes; arcs = map arc_from (items_in Graph First (lines bytes)) },
          record { accepted = a; nodes = ap (option_map (λ (h : Heading). h.nodes)) h.1; arcs = refl },
        )

    same : (g h : Network) → NamesGraph bytes g → NamesGraph bytes h → g ≡ h
    same g h named other =
        let nodes : g.nodes ≡ h.nodes = same_Some g.nodes h.nodes (sym named.nodes ∙ other.nodes) in
        let arcs : g.arcs ≡ h.arcs = named.arcs ∙ sym other.arcs in
        λ i. record { nodes = nodes i; arcs = arcs i }

pub queries_answer : (bytes : List ℕ) (n : ℕ) → HasOneAnswer (NamesQueries bytes n) (Queries n) bytes
queries_answer bytes n = answers (Queries n) bytes (NamesQueries bytes n) (λ a. (_, record { accepted = a; value = refl }))
    (λ x y named other. named.value ∙ sym other.value) (λ x named. named.accepted)

pub nodes_answer : (bytes : List ℕ) (n : ℕ) → HasOneAnswer (NamesNodes bytes n) (Nodes n) bytes
nodes_answer bytes n = answers (Nodes n) bytes (NamesNodes bytes n) (λ a. (_, record { accepted = a; value = refl }))
    (λ x y named other. named.value ∙ sym other.value) (λ x named. named.accepted)

pub saved_answer : (bytes : List ℕ) (n : ℕ) → HasOneAnswer (NamesSaved bytes n) (Saved n) bytes
saved_answer bytes n = answers (Saved n) bytes (NamesSaved bytes n) (λ a. (_, record { accepted = a; order = refl; legs = refl }))
    same (λ x named. named.accepted)
  where
    same : (x y : OrderAndLegs) → NamesSaved bytes n x → NamesSaved bytes n y → x ≡ y
    same x y named other =
        let order : x.order ≡ y.order = named.order ∙ sym other.order in
        let legs : x.legs ≡ y.legs = named.legs ∙ sym other.legs in
        λ i. record { order = order i; legs = legs i }
