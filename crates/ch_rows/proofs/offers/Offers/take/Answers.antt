-- One more listed place moves its least weight into the row, so in the end the row has all offers and none is left.
use Rattle.std.proofs.Common.{◌≡◌, [], ◌∷◌, ◌++◌, get_or, append-nil, sym, ◌∙◌, ap, subst, arith}
use Rattle.std.proofs.lemmas.List.{get_or_read, nil_from_length}
use Rattle.ch_rows.specs.Offers.{AreListed}
use Rattle.ch_rows.proofs.Takings.{AreOut, none_out, one_out, all_out, last_within, listed_less}
use Rattle.ch_rows.proofs.offers.Offers.take.Goals as goal

pub loop-place-init : goal.loop-place-init
loop-place-init c =
    let least = c.self.inside.least.items in
    record {
      listed = c.self.invariant;
      out = subst (AreOut c.args.self.now least) (sym c.clear.ensures.items)
          (subst (λ all. AreOut all least []) c.self.view_is (none_out least));
    }

pub index-weight-requires : goal.index-weight-requires
index-weight-requires c =
    let least = c.loop-place.self-inside.least.items in
    let lt = last_within least c.pop.new.self.items c.in-Some.place
    (subst (AreListed least) c.in-Some.ensures.items c.loop-place.invariant.listed) in
    omega arith

pub index_mut-requires : goal.index_mut-requires
index_mut-requires c =
    let least = c.loop-place.self-inside.least.items in
    let lt = last_within least c.pop.new.self.items c.in-Some.place
    (subst (AreListed least) c.in-Some.ensures.items c.loop-place.invariant.listed) in
    omega arith

pub loop-place-preserved : goal.loop-place-preserved
loop-place-preserved c =
    let least = c.loop-place.self-inside.least.items in
    let places = c.pop.new.self.items in
    let p = c.in-Some.place in
    let a = subst (AreListed least) c.in-Some.ensures.items c.loop-place.invariant.listed in
    let read = get_or_read least p c.index-weight.result.now (last_within least places p a) c.index-weight.ensures 0 in
    let pushed : c.push.new.self.items ≡ c.loop-place.row.items ++ (get_or least p 0, p) ∷ []
    = c.in_ok-push.ensures.items ∙ ap (λ q. c.loop-place.row.items ++ (q, p) ∷ []) read in
    record {
      listed = listed_less least places p a;
      out = one_out c.args.self.now least places p c.loop-place.row.items
          c.push.new.self.items a c.loop-place.invariant.out pushed;
    }

pub invariant_of-self : goal.invariant_of-self
invariant_of-self c =
    let least = c.loop-place.self-inside.least.items in
    listed_less least c.pop.new.self.items c.in-Some.place (subst (AreListed least) c.in-Some.ensures.items c.loop-place.invariant.listed)

pub invariant_of-self-in_default : goal.invariant_of-self-in_default
invariant_of-self-in_default c = subst (AreListed c.loop-place.self-inside.least.items)
    (c.in_default.ensures.items ∙ append-nil c.pop.new.self.items) c.loop-place.invariant.listed

pub returns-clause-taken : goal.returns-clause-taken
returns-clause-taken c =
    let least = c.loop-place.self-inside.least.items in
    let places = c.loop-place.self-inside.places.items in
    let none : places ≡ [] = nil_from_length places (let e = c.in_default.ensures.cases.0 in omega arith) in
    (all_out c.args.self.now least c.loop-place.row.items (subst (AreListed least) none c.loop-place.invariant.listed)
    c.loop-place.invariant.out).0

pub returns-clause-none : goal.returns-clause-none
returns-clause-none c =
    let least = c.loop-place.self-inside.least.items in
    let places = c.loop-place.self-inside.places.items in
    let none : places ≡ [] = nil_from_length places (let e = c.in_default.ensures.cases.0 in omega arith) in
    (all_out c.args.self.now least c.loop-place.row.items (subst (AreListed least) none c.loop-place.invariant.listed)
    c.loop-place.invariant.out).1
