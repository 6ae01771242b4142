-- Sections with as many items as the heading says, after the bytes up to the problem line, make a whole file.
use Rattle.std.proofs.Common.{◌≡◌, sym, ap, eqb, arith}
use Rattle.std.proofs.lemmas.Bool.{eqb-true}
use Rattle.std.specs.List.{flat_map}
use Rattle.ch_read.specs.declared.form.Counts.{Counts}
use Rattle.ch_read.specs.Words.{lines}
use Rattle.ch_read.proofs.Numbers.{both}
use Rattle.ch_read.proofs.Cuts.{whole_by_sections}
use Rattle.ch_read.proofs.sections.read_sections.Goals as goal

pub returns-then-eq : goal.returns-then-eq
returns-then-eq g c =
    let same = both (eqb c.new.result.first c.in-Some.heading.items.first) (eqb c.new.result.second c.in-Some.heading.items.second)
    (sym c.if-eq.ensures) in
    let first : c.new.result.first ≡ c.len.result = ap (λ (k : Counts). k.first) c.new.ensures in
    let second : c.new.result.second ≡ c.len-2.result = ap (λ (k : Counts). k.second) c.new.ensures in
    let firsts = eqb-true c.new.result.first c.in-Some.heading.items.first same.0 in
    let seconds = eqb-true c.new.result.second c.in-Some.heading.items.second same.1 in
    whole_by_sections g.A.FromItem.from_item_gives g.B.FromItem.from_item_gives c.args.form c.args.bytes.now c.in-Some.rest.now
    (flat_map (λ s. lines s.now) c.in_ok-sections.sections.items) c.in-Some.heading
    c.in_ok-first.first.items c.in_ok-second.second.items c.in-Some.ensures c.in_ok-sections.ensures
    (rw (c.in_ok-first.ensures, c.in_ok-second.ensures) (rw (c.in-Some-2.is, c.deref.ensures.value) at c.in_ok-firsts.ensures))
    (omega (arith, first, firsts)) (omega (arith, second, seconds))
