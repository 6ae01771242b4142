-- What the story of each run tells.
use Rattle.std.proofs.Common.{◌≡◌, ℕ, List, Result, Err, inl, inr, refl, arith, subst}
use Rattle.std.specs.Prelude.{IsErrAnd}
use Rattle.ch_read.specs.declared.form.Form.TheVariants as Form
use Rattle.ch_run.specs.declared.fault.RunFault.{RunFault}
use Rattle.ch_run.specs.declared.fault.Which.{Which}
use Rattle.ch_job.specs.declared.options.Options.{Options}
use Rattle.ch_run.specs.DistRun.{IsOfDist}
use Rattle.ch_run.specs.NearRun.{IsOfNear}
use Rattle.ch_run.specs.Run.{IsOf, Reading, ReadingIf, SourceReading}
use Rattle.ch_run.specs.SaveRun.{IsOfSave}
use Rattle.ch_run.specs.Stories.{RunsDist, RunsNear, RunsSave, RunsTable}
use Rattle.ch_run.specs.Story.{IsRefused, Writes}
use Rattle.ch_run.specs.TableRun.{IsOfTable}
use Rattle.ch_run.specs.Told.{Calls, DistTells, NearTells, SaveTells, TableTells, Written}
use Rattle.ch_run.proofs.Loading.{graph_of}
use Rattle.ch_run.proofs.Owed.{err_is}
use Rattle.ch_run.proofs.Tells.{cells_told, loads_told, reads_told, sources_told, untouched, untouched_if, unwritten, unwritten_by}
use Rattle.ch_run.proofs.Tells.{writes_told}

-- a run that stopped at an input made no table, and did not end in too many cells
unmade : {T O : Type 0} (r : Result T RunFault) (first : Which) {takes : Calls O} {old new : O} {many accepted : Type 0}
    {P : List ℕ → Type 0} → IsErrAnd r (IsOf first) → new ≡ old → (r ≡ Err RunFault.Cells → many) × Written r takes old new accepted P
unmade r first is same = (λ cells. absurd (err_is r (IsOf first) _ is cells), unwritten r first is same)

module _ {T O : Type 0} (options : Options) {graph : Reading} {saved : SourceReading} {takes : Calls O} {old new : O}
    {r : Result T RunFault} {same_source : Type 0} where
  -- of a run that answers queries
  pub dist_told : {queries : Reading} {same : Type 0} → RunsDist options graph saved queries same_source same takes old new r →
      DistTells options graph saved queries same_source same takes old new r
  dist_told {queries} went = loads_told r (IsOfDist saved) graph saved (λ e is. inl is) went
      (λ first less of is at. (untouched r first is less at.0, unwritten r first is at.1))
      (λ g h loaded rest. reads_told r (IsOfDist saved) Which.Queries queries (IsRefused (Form.Queries g.nodes)) 3 (omega arith)
      (λ e is. inr (inl is)) (g, h, loaded, tt) (λ e is. (g, h, loaded, is)) rest (unwritten r Which.Queries)
      (λ pairs read. writes_told r (IsOfDist saved) 3 (inr (inl tt)) (λ count. inr (inr tt)) (g, h, loaded, (pairs, read))
      (λ text is. (g, h, loaded, (pairs, read, is)))))

  -- of a run that saves a hierarchy
  pub save_told : RunsSave options graph saved same_source takes old new r → SaveTells options graph saved same_source takes old new r
  save_told went = loads_told r (IsOfSave saved) graph saved (λ e is. inl is) went (λ first less of. unwritten r first) (λ g h loaded.
      writes_told r (IsOfSave saved) 2 (inl (graph_of saved _ tt)) (λ count. inr tt) (g, h, loaded, tt) (λ text is. (g, h, loaded, is)))

  -- of a run that makes a table
  pub table_told : {sources targets : Reading} {same_sources same_targets : Type 0} →
      RunsTable options graph saved sources targets same_source same_sources same_targets takes old new r →
      TableTells options graph saved sources targets same_source same_sources same_targets takes old new r
  table_told {sources} {targets} went =
      let Own = IsOfTable saved in
      loads_told r Own graph saved (λ e is. inl is) went
      (λ first less of is at. (untouched r first is less at.0, (untouched r first is (omega arith) at.1, unmade r first is at.2)))
      (λ g h loaded rest. reads_told r Own Which.Sources sources (IsRefused (Form.Nodes g.nodes)) 3 (omega arith)
      (λ e is. inr (inl (inl is))) (g, h, loaded, tt) (λ e is. (g, h, loaded, is)) rest
      (λ is at. (untouched r Which.Sources is (omega arith) at.0, unmade r Which.Sources is at.1))
      (λ from read rest. reads_told r Own Which.Targets targets (IsRefused (Form.Nodes g.nodes)) 4 (omega arith)
      (λ e is. inr (inl (inr (inl is)))) (g, h, loaded, (from, read)) (λ e is. (g, h, loaded, ((from, read), is))) rest
      (unmade r Which.Targets)
      (λ to told cells. cells_told r Own from to (λ many. inr (inl (inr (inr refl)))) cells
      (λ many is at. (λ same. (g, h, loaded, (from, to, read, told, many)), unwritten_by r (rw is (λ write. write)) at))
      (λ few wrote. let e = writes_told r Own 4 (inr (inl (inl tt))) (λ count. inr (inr tt)) (g, h, loaded, (from, to, (read, told, few)))
      (λ text is. (g, h, loaded, (from, to, (read, told, few), is))) wrote in
      (e.0, e.1, (λ same. absurd (subst (Writes takes old new _) same wrote), e.2))))))

  -- of a run that writes near rows
  pub near_told : (sources : ReadingIf) {targets : Reading} {same_sources same_targets : Type 0} →
      RunsNear options graph saved sources targets same_source same_sources same_targets takes old new r →
      NearTells options graph saved sources targets same_source same_sources same_targets takes old new r
  near_told sources {targets} went =
      let Own = IsOfNear saved sources in
      loads_told r Own graph saved (λ e is. inl is) went (λ first less of is at.
      (untouched_if r first _ _ sources is less at.0, (untouched r first is (omega arith) at.1, unwritten r first is at.2)))
      (λ g h loaded rest. sources_told r Own _ g.nodes _ sources (λ e is. inr (inl (inl is))) (g, h, loaded, tt)
      (λ list e is. (g, h, loaded, is)) rest (λ is at. (untouched r Which.Sources is (omega arith) at.0, unwritten r Which.Sources is at.1))
      (λ listed are rest. reads_told r Own Which.Targets targets (IsRefused (Form.Nodes g.nodes)) 4 (omega arith)
      (λ e is. inr (inl (inr is))) (g, h, loaded, (_, are)) (λ e is. (g, h, loaded, ((_, are), is))) rest (unwritten r Which.Targets)
      (λ to told. writes_told r Own 4 (inr (inl (inr tt))) (λ count. inr (inr tt)) (g, h, loaded, (_, to, (are, told)))
      (λ text is. (g, h, loaded, (_, to, (are, told), is))))))
