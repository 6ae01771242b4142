-- The bytes of the only part are those of the text.
use Rattle.std.proofs.Common.{[], ◌∷◌, ◌++◌, List, ℕ, Vec, ap, ◌∙◌}
use Rattle.std.specs.declared.alloc.Global.{Global}
use Rattle.std.proofs.lemmas.List.{append-nil}
use Rattle.std.proofs.lemmas.Result.{IfOk-weaker}
use Rattle.ch_run.proofs.Parts.{bytes_of}
use Rattle.ch_run.proofs.run.lines.one_part.Goals as goal

pub returns-clause-same : goal.returns-clause-same
returns-clause-same c =
    IfOk-weaker c.checked_length.result _ _ (λ parts same. ap bytes_of (same ∙ c.in_ok-push.ensures.items
    ∙ ap (λ (l : List (Vec ℕ Global)). l ++ c.args.text ∷ []) c.in_ok-parts.ensures.items) ∙ append-nil c.args.text.items)
    c.checked_length.ensures.same
