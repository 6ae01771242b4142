-- The run goes as its story says at each end, so the output takes the text of the hierarchy, or its first bytes.
use Rattle.std.proofs.Common.{refl, rules}
use Rattle.ch_run.proofs.Stories.{save_told}
use Rattle.ch_run.proofs.Story.{ended, loads_serving, loads_stops, writes_none, writes_weaker}
use Rattle.ch_run.proofs.run.save.run_save.Goals as goal

pub returns-in_err-loaded : goal.returns-in_err-loaded
returns-in_err-loaded g c = ended (λ went. (save_told c.args.options.now went).later.written)
    (loads_stops _ _ _ _ _ _ c.from_residual.ensures.1 refl c.in_err-loaded.ensures.went) (search rules)

pub returns-in_err-text : goal.returns-in_err-text
returns-in_err-text g c = ended (λ went. (save_told c.args.options.now went).later.written) (loads_serving _ _ _ _ _ _ _
    (λ h place. writes_none _ _ _ _ c.from_residual-in_err-text.ensures.1) c.in_ok-loaded.ensures.went) (search rules)

pub returns : goal.returns
returns g c =
    let text = c.in_ok-text.ensures in
    ended (λ went. (save_told c.args.options.now went).later.written) (loads_serving _ _ _ _ _ _ _
    (λ h place. writes_weaker _ _ _ _ _ c.write_text.result
    (rw c.deref.ensures.value (text.0, rw c.to_save-needed.ensures at (place _ text.0 text.1), text.2)) c.write_text.ensures.wrote)
    c.in_ok-loaded.ensures.went) (search rules)
