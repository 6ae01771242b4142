-- The legs while shortcuts are put in one after the other.
use Rattle.std.proofs.Common.{◌≡◌, ℕ, ◌+◌, ◌<◌, Bool, true, false, cond, List, [], ◌∷◌, ◌++◌, length, get_or, take, Option, Some}
use Rattle.std.proofs.Common.{All, refl, sym, ◌∙◌, ap, subst, arith}
use Rattle.std.specs.Prelude.{◌==◌, ◌&&◌, if◌then◌else◌, AllPairs}
use Rattle.std.proofs.lemmas.List.Elements.{All-head, All-tail}
use Rattle.std.proofs.lemmas.List.{length-take, get_or-take, get_or_default, take_more}
use Rattle.ch_contract.specs.declared.shortcut.Shortcut.{Shortcut}
use Rattle.ch_contract.specs.Contraction.{IsPairBefore, leg_after_shortcuts, shortcut_label}
use Rattle.ch_contract.specs.Legs.{Label}
use Rattle.ch_hierarchy.proofs.theory.Ordered.{same_ends}

-- the legs after one more shortcut: it is the leg between its ends, because no earlier shortcut has the same ends
pub overridden_push : (v : ℕ) (xs : List Shortcut) (s : Shortcut) (u w : ℕ) (before : Option Label) →
    All (λ t. IsPairBefore t s) xs →
    leg_after_shortcuts v (xs ++ s ∷ []) u w before
    ≡ (if s.from == u && s.to == w then Some (shortcut_label v s) else leg_after_shortcuts v xs u w before)
overridden_push v [] s u w before earlier = refl
overridden_push v (t ∷ xs) s u w before earlier = at (t.from == u && t.to == w) (s.from == u && s.to == w) refl refl
    (overridden_push v xs s u w before (All-tail (λ t. IsPairBefore t s) t xs earlier))
  where
    at : (a b : Bool) → (t.from == u && t.to == w) ≡ a → (s.from == u && s.to == w) ≡ b →
        leg_after_shortcuts v (xs ++ s ∷ []) u w before ≡ cond b (Some (shortcut_label v s)) (leg_after_shortcuts v xs u w before) →
        cond a (Some (shortcut_label v t)) (leg_after_shortcuts v (xs ++ s ∷ []) u w before) ≡ cond b (Some (shortcut_label v s))
        (cond a (Some (shortcut_label v t)) (leg_after_shortcuts v xs u w before))
    at true true e f more = let i = same_ends u w t.from t.to e in let j = same_ends u w s.from s.to f in let first =
        All-head (λ t. IsPairBefore t s) t xs earlier in let less = first.1 (omega arith) in absurd (omega arith)
    at true false e f more = refl
    at false b e f more = more

-- each element before place i comes before the one at place i
pub earlier_at : (xs : List Shortcut) (i : ℕ) (d : Shortcut) → i < length xs → AllPairs IsPairBefore xs →
    All (λ t. IsPairBefore t (get_or xs i d)) (take i xs)
earlier_at xs i d lt h k e in' =
    let within : k < i = omega (arith, length-take i xs) in
    subst (λ t. IsPairBefore t (get_or xs i d)) (sym (get_or-take i xs k e within))
    (subst (λ t. IsPairBefore (get_or xs k e) t) (get_or_default xs i e d lt) (h k i e within lt))

-- the legs after the next shortcut is put in
pub next_shortcut : (v : ℕ) (xs : List Shortcut) (i : ℕ) (d : Shortcut) (u w : ℕ) (o before : Option Label) → i < length xs →
    AllPairs IsPairBefore xs → o ≡ leg_after_shortcuts v (take i xs) u w before →
    (if (get_or xs i d).from == u && (get_or xs i d).to == w then Some (shortcut_label v (get_or xs i d)) else o)
    ≡ leg_after_shortcuts v (take (i + 1) xs) u w before
next_shortcut v xs i d u w o before lt h e =
    let s = get_or xs i d in
    ap (λ z. if s.from == u && s.to == w then Some (shortcut_label v s) else z) e
    ∙ sym (overridden_push v (take i xs) s u w before (earlier_at xs i d lt h))
    ∙ ap (λ l. leg_after_shortcuts v l u w before) (sym (take_more xs i d lt))
