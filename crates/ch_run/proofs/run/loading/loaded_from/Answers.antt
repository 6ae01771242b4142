-- Where the graph, the saved hierarchy or the order fails, the story of loading ends there. Otherwise what was loaded serves.
use Rattle.std.proofs.Common.{inl, inr, refl}
use Rattle.ch_run.proofs.Loading.{serves_in_place}
use Rattle.ch_run.proofs.Owed.{err_as}
use Rattle.ch_run.proofs.run.loading.loaded_from.Goals as goal
use Rattle.ch_run.proofs.run.loading.loaded_from.Goals.{in-Built, in-Saved+in_ok-checked_from-in-Saved, in-Like+in_ok-hierarchy-in-Like}
use Rattle.ch_run.proofs.run.loading.loaded_from.Goals.{in-Customized+in_ok-frame-in-Customized, in-Dissected+in_ok-frame-in-Dissected}

-- the graph was read in vain
pub returns-in_err-graph-clause-went : goal.returns-in_err-graph-clause-went
returns-in_err-graph-clause-went g c = inl (err_as _ _ _ c.from_residual.ensures.1 c.in_err-graph.ensures.read, (refl, tt))

-- the saved hierarchy was read in vain
pub returns-in_err-checked_from-in-Saved-clause-went : goal.returns-in_err-checked_from-in-Saved-clause-went
returns-in_err-checked_from-in-Saved-clause-went g c =
    let read = c.in_ok-graph.ensures.read in
    let ends = err_as _ _ _ c.from_residual-in_err-checked_from-in-Saved.ensures.1 c.in_err-checked_from-in-Saved.ensures.ends in
    rw c.in-Saved.is (inr (read.0, c.in_ok-graph.graph, read.1, (read.2, c.in_ok-graph.ensures.limits), inl (ends, tt)))

-- the order was read in vain
pub returns-in_err-hierarchy-in-Like-clause-went : goal.returns-in_err-hierarchy-in-Like-clause-went
returns-in_err-hierarchy-in-Like-clause-went g c =
    let read = c.in_ok-graph.ensures.read in
    let ends = err_as _ _ _ c.from_residual-in_err-hierarchy-in-Like.ensures.1 c.in_err-hierarchy-in-Like.ensures.ends in
    rw c.in-Like.is (inr (read.0, c.in_ok-graph.graph, read.1, (read.2, c.in_ok-graph.ensures.limits), inl (ends, tt)))

pub returns-in_err-frame-in-Customized-clause-went : goal.returns-in_err-frame-in-Customized-clause-went
returns-in_err-frame-in-Customized-clause-went g c =
    let read = c.in_ok-graph.ensures.read in
    let ends = err_as _ _ _ c.from_residual-in_err-frame-in-Customized.ensures.1 c.in_err-frame-in-Customized.ensures.ends in
    rw c.in-Customized.is (inr (read.0, c.in_ok-graph.graph, read.1, (read.2, c.in_ok-graph.ensures.limits), inl (ends, tt)))

-- there was no memory
pub returns-in_err-frame-in-Dissected-clause-went : goal.returns-in_err-frame-in-Dissected-clause-went
returns-in_err-frame-in-Dissected-clause-went g c =
    let read = c.in_ok-graph.ensures.read in
    let ends = c.from_residual-in_err-frame-in-Dissected.ensures.1 in
    rw c.in-Dissected.is (inr (read.0, c.in_ok-graph.graph, read.1, (read.2, c.in_ok-graph.ensures.limits), inl (ends, tt)))

-- the graph was read, and what was loaded with it serves
pub returns-clause-went : goal.returns-clause-went
returns-clause-went g c =
    let read = c.in_ok-graph.ensures.read in
    let limits = c.in_ok-graph.ensures.limits in
    elim c.match-source.branch [
      | in-Built w ↦
          rw (w.source-is, w.in-Built.is, w.saved-is) (inr (read.0, _, read.1, (read.2, limits), (refl, λ hops K serves. serves)))
      | in-Saved+in_ok-checked_from-in-Saved w ↦
          let told = w.in_ok-checked_from-in-Saved.ensures.value in
          rw (w.source-is, w.in-Saved.is, w.saved-is)
          (inr (read.0, _, read.1, (read.2, limits), inr (told.0, _, told.1, told.2, (refl, λ hops K serves. serves))))
      | in-Like+in_ok-hierarchy-in-Like w ↦
          let told = w.in_ok-hierarchy-in-Like.ensures.value in
          rw (w.source-is, w.in-Like.is, w.saved-is)
          (inr (
            read.0,
            _,
            read.1,
            (read.2, limits),
            inr (
              told.0,
              told.2.0,
              told.1,
              told.2.1,
              (refl, λ hops K. serves_in_place c.args.needed _ hops c.in_ok-graph.graph told.2.0 _ K told.2.2),
            ),
          ))
      | in-Customized+in_ok-frame-in-Customized w ↦
          let told = w.in_ok-frame-in-Customized.ensures.value in
          rw (w.source-is, w.in-Customized.is, w.saved-is)
          (inr (read.0, _, read.1, (read.2, limits), inr (told.0, _, told.1, told.2, (refl, λ hops K serves. serves))))
      | in-Dissected+in_ok-frame-in-Dissected w ↦
          rw (w.source-is, w.in-Dissected.is, w.saved-is)
          (inr (
            read.0,
            _,
            read.1,
            (read.2, limits),
            inr (_, w.in_ok-frame-in-Dissected.ensures.hierarchy, (refl, λ hops K serves. serves)),
          ))
    ]
