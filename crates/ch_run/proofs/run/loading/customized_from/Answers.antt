-- The order that was read gives the frame and the hierarchy, or the first fault of the order ends the run.
use Rattle.std.proofs.Common.{refl, sym}
use Rattle.ch_run.proofs.run.loading.customized_from.Goals as goal

pub returns-in-Ok-clause-value : goal.returns-in-Ok-clause-value
returns-in-Ok-clause-value g c =
    let told = c.in_ok-given.ensures.read in
    (told.0, told.1, (record { order = c.in_ok-given.given.items; legs = told.2.0 }, told.2.1, c.in-Ok.ensures.hierarchy))

pub returns-in-Ok-clause-order : goal.returns-in-Ok-clause-order
returns-in-Ok-clause-order g c =
    let told = c.in_ok-given.ensures.read in
    (told.0, told.1, (record { order = c.in_ok-given.given.items; legs = told.2.0 }, told.2.1, sym c.in-Ok.ensures.order))

pub returns-in-Err-Order-clause-ends : goal.returns-in-Err-Order-clause-ends
returns-in-Err-Order-clause-ends g c =
    let told = c.in_ok-given.ensures.read in
    let unlike = c.customize_in.ensures.refused (let is = c.in-Err-Order.is in let field = c.in-Err-Order.field-0-is in cc) in
    (refl, (told.0, told.1, (record { order = c.in_ok-given.given.items; legs = told.2.0 }, told.2.1, unlike)))
