-- The text is copied to the first places, and the places behind it are as before.
use Rattle.std.proofs.Common.{rules, ◌≡◌, ℕ, ◌+◌, ◌-◌, ◌≤◌, List, ◌++◌, drop, length, take, get_or, refl, inl, sym, ◌∙◌, ap, subst, arith}
use Rattle.std.proofs.lemmas.List.{get_or-append-add, get_or-drop, take-append-le}
use Rattle.std.proofs.Math.Seq.{take-length}
use Rattle.ch_engine.specs.NearRows.{StaysFrom}
use Rattle.ch_c.proofs.answers.write_saved.Goals as goal

-- behind what is copied to its first places a list is as before
behind_copied : (text copied out : List ℕ) (n : ℕ) → n ≡ length text → length copied ≡ length text →
    StaysFrom (length text) out (copied ++ drop n out)
behind_copied text copied out n same whole k from =
    let j = k - length copied in
    let at : length copied + j ≡ k = omega arith in
    let past : n + j ≡ k = omega arith in
    subst (λ (i : ℕ). get_or (copied ++ drop n out) i 0 ≡ get_or out k 0) at
    (get_or-append-add copied (drop n out) j 0 ∙ get_or-drop n out j 0 ∙ ap (λ (i : ℕ). get_or out i 0) past)

pub returns : goal.returns
returns c =
    let text = c.in-Ok.text.items in
    let copied = c.copy_from_slice.new.self in
    let out = c.args.out.now in
    let n = c.len-3.result in
    let size : c.len.result ≡ length text = search rules in
    let count : n ≡ length text = search rules in
    let copy : copied ≡ text = search rules in
    let fits : length text ≤ length (copied ++ drop n out) = search rules in
    let written : take (length text) (copied ++ drop n out) ≡ text =
    subst (λ (xs : List ℕ). take (length text) (xs ++ drop n out) ≡ text) (sym copy)
    (take-append-le (length text) text (drop n out) (omega arith) ∙ take-length text) in
    inl (text, c.in-Ok.ensures, size, inl (refl, fits, written, behind_copied text copied out n count (ap length copy)))
