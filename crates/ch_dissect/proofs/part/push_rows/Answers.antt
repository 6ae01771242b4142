-- One more row ends among the heads.
use Rattle.std.proofs.Common.{◌≤◌, ◌+◌, length, vec_len, sym, ◌∙◌, ap, subst, arith}
use Rattle.ch_dissect.specs.Rows.{AreUpTo}
use Rattle.ch_dissect.proofs.Numbers.{up_to_more}
use Rattle.ch_dissect.proofs.part.push_rows.Goals as goal

pub loop-at-preserved : goal.loop-at-preserved
loop-at-preserved c =
    let row = c.in_ok-push_row.ensures in
    let full = c.push_row.new.heads.ok in
    let end : c.arcs_of.result ≤ vec_len c.push_row.new.heads = omega (arith, c.arcs_of.ensures, ap length c.deref.ensures.value) in (
      c.in_ok-push-2.ensures.len ∙ ap (λ z. z + 1) c.loop-at.invariant.0,
      subst (AreUpTo (vec_len c.push_row.new.heads)) (sym c.in_ok-push-2.ensures.items)
          (up_to_more _ _ _ _ c.loop-at.invariant.1 end row.len),
      row.heads,
    )
