-- The order and the graph that were read give the hierarchy, or the first fault of the order ends the run.
use Rattle.std.proofs.Common.{refl}
use Rattle.ch_run.proofs.run.loading.built_from.Goals as goal

pub returns-in-Ok-clause-value : goal.returns-in-Ok-clause-value
returns-in-Ok-clause-value g c =
    let told = c.in_ok-given.ensures.read in
    let built = rw c.deref.ensures.value at c.in-Ok.ensures.hierarchy in
    let each = rw c.deref.ensures.value at c.in-Ok.ensures.order in
    (told.0, told.1, (built.0, (record { order = c.in_ok-given.given.items; legs = told.2.0 }, told.2.1, each, built.1, built.2), built.3))

pub returns-in-Err-Crowded-clause-ends : goal.returns-in-Err-Crowded-clause-ends
returns-in-Err-Crowded-clause-ends g c =
    let told = c.in_ok-given.ensures.read in
    let crowded = c.build_in_order.ensures.crowded c.in-Err-Crowded.node
    (let is = c.in-Err-Crowded.is in let field = c.in-Err-Crowded.field-0-is in cc) in
    let many = rw c.deref.ensures.value at crowded in
    (refl, (told.0, told.1, (record { order = c.in_ok-given.given.items; legs = told.2.0 }, told.2.1, many)))

pub returns-in-Err-Order-clause-ends : goal.returns-in-Err-Order-clause-ends
returns-in-Err-Order-clause-ends g c =
    let told = c.in_ok-given.ensures.read in
    let refused = c.build_in_order.ensures.refused (let is = c.in-Err-Order.is in let field = c.in-Err-Order.field-0-is in cc) in
    let unlike = rw c.deref.ensures.value at refused in
    (refl, (told.0, told.1, (record { order = c.in_ok-given.given.items; legs = told.2.0 }, told.2.1, unlike)))
