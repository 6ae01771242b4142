-- What the story of a run that answers requests tells.
use Rattle.std.proofs.Common.{◌≡◌, ◌⊎◌, ℕ, ◌<◌, List, [], Result, Ok, Err, inl, inr, refl, sym, ap, arith}
use Rattle.std.specs.Prelude.{IfErr, IsErrAnd, ⊤}
use Rattle.std.proofs.lemmas.Result.{IfErr-weaker}
use Rattle.ch_job.specs.declared.options.Options.{Options}
use Rattle.ch_run.specs.declared.fault.RunFault.{RunFault}
use Rattle.ch_run.specs.declared.fault.Which.{Which}
use Rattle.ch_run.specs.Ask.{IsOfAsk, IsOfServing, ReadsSome, Rules, Serves, ServesBy, Situation, at_first, rules_from}
use Rattle.ch_run.specs.Run.{IsOf, Reading, SourceReading}
use Rattle.ch_run.specs.Source.{IsOfLoading}
use Rattle.ch_run.specs.Stories.{RunsAsk}
use Rattle.ch_run.specs.Told.{AskTells, Calls, GoesPastBefore, Met, ReportsReads, ReportsWrites, Written, step_of}
use Rattle.ch_run.proofs.Loading.{graph_of}
use Rattle.ch_run.proofs.Owed.{err_weaker, of_no_write, of_one}
use Rattle.ch_run.proofs.Tells.{loads_told, untouched, unwritten}

-- reads that gave these bytes did not fail
some_read : (requests : Reading) (P : List ℕ → List ℕ → Type 0) → ReadsSome requests P →
    ((bytes : List ℕ) × (requests.some bytes ⊎ requests.all bytes)) × ((read left : List ℕ) × P read left)
some_read requests P (read, inl (some, p)) = ((read, inl some), (read, [], p []))
some_read requests P (read, inr (all, p)) = ((read, inr all), (read, [], p))

-- what a run that serves requests reports, and the faults that it ends in
module _ {T S : Type 0} (rules : Rules) (takes : Calls S) (n : ℕ) (first : Situation) (requests : Reading) (old new : S)
    {same : Type 0} where
  serves_report : (r : Result T RunFault) → Serves rules takes n first requests old new r →
      IfErr r IsOfServing × ReportsReads Which.Requests requests same r × ReportsWrites takes old new r
  serves_report (Ok x) h =
      (tt, inr (λ is. cc, inr (h.read.0, inr h.read.1)), inr (λ is. is, inr (h.output.text, h.output.took)))
  serves_report (Err (RunFault.Read which f)) h = let e = some_read requests _ h.read in
      (inl (sym e.1.2.2.0), inr (λ is. cc, inr e.0), inr (λ is. is, inr (h.output.text, h.output.took)))
  serves_report (Err (RunFault.CellsAt line)) h = let e = some_read requests _ h.read in
      (inl refl, inr (λ is. cc, inr e.0), inr (λ is. is, inr (h.output.text, h.output.took)))
  serves_report (Err (RunFault.NoArcAt line)) h = let e = some_read requests _ h.read in
      (inl refl, inr (λ is. cc, inr e.0), inr (λ is. is, inr (h.output.text, h.output.took)))
  serves_report (Err (RunFault.FixedAt line)) h = let e = some_read requests _ h.read in
      (inl refl, inr (λ is. cc, inr e.0), inr (λ is. is, inr (h.output.text, h.output.took)))
  serves_report (Err RunFault.Memory) h = let e = some_read requests _ h.read in
      (inl tt, inr (λ is. cc, inr e.0), inr (λ is. is, inr (h.output.text, h.output.took)))
  serves_report (Err (RunFault.Device which)) h = (
    inl (sym h.read.0),
    inl (ap (λ (w : Which). Err (RunFault.Device w)) h.read.0, (h.read.1, h.read.2)),
    inr (λ is. is, inr (h.output.text, h.output.took)),
  )
  serves_report (Err (RunFault.Write count)) h = let e = some_read requests _ h.read in
      (inr tt, inr (λ is. cc, inr e.0), inl (tt, (h.output.text, h.output.took.0, h.output.took.1)))
  serves_report (Err _) h = absurd (some_read requests _ h.read).1.2.2

-- a run that ends in a fault of serving goes past the graph and the file for the hierarchy
serving_past : {T : Type 0} (r : Result T RunFault) → IfErr r IsOfServing → GoesPastBefore r 2
serving_past r own which less = IfErr-weaker r _ _ (λ e of stops. elim of [
  | inl requests ↦ let one = ap step_of (of_one Which.Requests which e requests stops) in absurd (omega arith)
  | inr write ↦ absurd (of_no_write which e stops.0 write)
]) own

-- a run that answers requests stops while it loads, has no memory for the hierarchy, or serves the requests
pub ask_told : {T O : Type 0} (options : Options) {graph : Reading} {saved : SourceReading} {requests : Reading}
    {same_source same : Type 0} {takes : Calls O} {old new : O} {r : Result T RunFault} →
    RunsAsk options graph saved requests same_source same takes old new r →
    AskTells options graph saved requests same_source same takes old new r
ask_told options {graph} {saved} {requests} {same = same} {takes} {old} {new} {r} went =
    let quiet : (first : Which) → step_of first < 2 → ((e : RunFault) → IsOf first e → IsOfLoading saved e) → IsErrAnd r (IsOf first) →
    same × (new ≡ old) → ReportsReads Which.Requests requests same r × ReportsWrites takes old new r
    × ((IsErrAnd r (IsOfLoading saved) × same × (new ≡ old)) ⊎ ServesBy options graph saved requests takes old new r) =
    λ first less of is at.
    let met : Met r Which.Requests requests same ⊤ (λ e. ⊤) = untouched r first is less at.0 in
    let wrote : Written r takes old new ⊤ (λ text. ⊤) = unwritten r first is at.1 in
    (met.calls, wrote.calls, inl (err_weaker r _ _ is of, at.0, at.1)) in
    loads_told r (IsOfAsk saved) graph saved (λ e is. inl is) went quiet (λ g h loaded serving. elim serving [
      | inl none ↦
          let told = quiet Which.Graph (omega arith) (λ e is. graph_of saved e is) (rw none.0 tt) (none.1, none.2) in
          (rw none.0 (inl (graph_of saved _ tt)), λ which less. rw none.0 (λ stops. absurd (stops.1 refl)), told)
      | inr served ↦ let e = serves_report (rules_from options saved) takes g.nodes (at_first g served.0) requests old new r served.2 in
          (IfErr-weaker r _ _ (λ e own. inr own) e.0, serving_past r e.0, (e.1, e.2, inr (g, h, loaded, served)))
    ])
