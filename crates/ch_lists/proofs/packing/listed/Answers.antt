-- One more place adds an entry exactly if its list is not empty, so in the end all lists that are not empty have one.
use Rattle.std.proofs.Common.{◌≡◌, ◌+◌, ◌∙◌, get_or, vec_len, vec_capacity, Some, arith, ap, subst, sym}
use Rattle.std.specs.List.{slice_get}
use Rattle.std.proofs.lemmas.Option.{slice_get-get_or}
use Rattle.ch_lists.specs.Packing.{nowhere, AreListed}
use Rattle.ch_lists.proofs.Listed.{listed_empty, listed_more}
use Rattle.ch_lists.proofs.packing.listed.Goals.{then-place-gt0, else-place-gt0}
use Rattle.ch_lists.proofs.packing.listed.Goals as goal

pub loop-list-preserved : goal.loop-list-preserved
loop-list-preserved c =
    let i = c.loop-list.invariant in
    let places = c.args.places.now in
    let n = c.loop-list.list in
    let p = get_or places n nowhere in
    let at : slice_get places n ≡ Some p = slice_get-get_or places n nowhere c.loop-list-test.true in
    elim c.if-place-gt0.branch [
      | then-place-gt0 w ↦ record {
        room = omega (arith, ap vec_capacity w.entries-is, w.push_reserved.ensures.capacity, i.room);
        few = omega (arith, ap vec_len w.entries-is, w.push_reserved.ensures.len, i.few);
        listed = subst (λ items. AreListed places (n + 1) items)
            (sym (ap (λ v. v.items) w.entries-is ∙ w.push_reserved.ensures.items))
            (listed_more places n c.loop-list.entries.items p i.listed at w.if-place-gt0.true);
      }
      | else-place-gt0 w ↦ record {
        room = omega (arith, ap vec_capacity w.entries-is, i.room);
        few = omega (arith, ap vec_len w.entries-is, i.few);
        listed = subst (λ items. AreListed places (n + 1) items) (sym (ap (λ v. v.items) w.entries-is))
            (listed_empty places n c.loop-list.entries.items p i.listed at (omega (arith, w.if-place-gt0.false)));
      }
    ]

pub returns : goal.returns
returns c = subst (λ n. AreListed c.args.places.now n c.loop-list.entries.items)
    (omega (arith, c.loop-list-test.false, c.loop-list.auto.list-end)) c.loop-list.invariant.listed
