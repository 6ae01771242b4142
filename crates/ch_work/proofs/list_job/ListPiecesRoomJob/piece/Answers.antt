-- One more item has its value, and the workspace stays clean.
use Rattle.std.proofs.Common.{◌≡◌, ◌+◌, ◌∙◌, [], ◌∷◌, ◌++◌, take, ap, subst, sym}
use Rattle.std.specs.List.{AllZip, slice_range}
use Rattle.std.proofs.lemmas.List.{take_more}
use Rattle.std.proofs.lemmas.Slice.Zip.{all_zipped_more}
use Rattle.ch_work.proofs.list_job.ListPiecesRoomJob.piece.Goals as goal

pub loop-item-preserved : goal.loop-item-preserved
loop-item-preserved g c =
    let P = g.J.ListJob.meaning c.args.self.now.0 in
    let items = slice_range c.self.inside.items.now c.args.from c.args.to in
    let i = c.loop-item.item-index in
    let item = c.item-item.result in
    let value = c.in_ok-value.field-0 in
    let values = c.loop-item.values.items in
    let job : c.self.inside.job.now ≡ c.args.self.now.0 = ap (λ w. w.0) c.self.view_is in
    let means = subst (λ j. g.J.ListJob.meaning j item value) job c.in_ok-value.ensures.value in
    let clean = subst (λ j. g.J.ListJob.clean j c.value.new.room) job c.in_ok-value.ensures.clean in
    let taken : take i items ++ item ∷ [] ≡ take (i + 1) items =
    ap (λ x. take i items ++ x ∷ []) c.item-item.is ∙ sym (take_more items i item c.loop-item-test.true) in
    let more = all_zipped_more P (take i items) values item value c.loop-item.invariant.0 means in
    (rw c.in_ok-push.ensures.items (subst (λ xs. AllZip P xs (values ++ value ∷ [])) taken more), clean)
