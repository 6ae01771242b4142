-- Near rows without places are empty, and the text of those in front with one limit answers all of them.
use Rattle.std.proofs.Common.{◌≡◌, ◌<◌, ◌++◌, [], ℕ, List, Some, length, refl, sym, ap, ◌∙◌, subst}
use Rattle.std.specs.Prelude.{All}
use Rattle.ch_hierarchy.specs.Hierarchy.{nodes_of}
use Rattle.ch_rows.specs.Near.{Wanted}
use Rattle.ch_text.specs.NearText.{near_row_text}
use Rattle.ch_run.specs.Serving.{near_row_of, places_of}
use Rattle.ch_run.proofs.Gathered.{first_answered, near_answered, none_near, one_answered, values_within}
use Rattle.ch_run.proofs.run.first.first_rows.Goals as goal

pub returns-in_default-clause-first : goal.returns-in_default-clause-first
returns-in_default-clause-first g c =
    let checked = c.args.by.now.checked.now in
    let line = c.in_ok-push_near_row.ensures ∙ ap (λ (l : List ℕ). l ++ near_row_text [] (c.args.source, [])) c.new-text.ensures.items in
    rw (c.in_default.is) (one_answered (near_row_of c.args.within c.args.source) (none_near c.args.by.now.options.now checked.graph
    (λ K. K ≡ checked.hierarchy) c.args.source c.args.within c.push_near_row.new.text.items line))

pub text-requires-clause-sources : goal.text-requires-clause-sources
text-requires-clause-sources g c = λ kept within.
    let n = c.args.by.now.checked.now.graph.nodes in
    let searched = rw c.in-Some.is at c.requires.room.near in
    let size : nodes_of c.in-Some.near.hierarchy ≡ n = ap nodes_of searched.0 ∙ searched.2.kept.nodes in
    let all = values_within c.in_ok-sources.ensures n (λ s. s < n) (λ s is. is) c.requires.each in
    subst (λ m. All (λ s. s < m) c.deref.result.now) (sym size) (subst (All (λ s. s < n)) (sym c.deref.ensures.value) all)

pub text-requires-clause-limit : goal.text-requires-clause-limit
text-requires-clause-limit g c = λ kept valid x within. rw (rw c.in-Some.is at c.requires.room.near).1 tt

pub returns-clause-first : goal.returns-clause-first
returns-clause-first g c =
    let checked = c.args.by.now.checked.now in
    let searched = rw c.in-Some.is at c.requires.room.near in
    let text = rw (c.deref.ensures.value, c.limit_of-within.ensures) at c.in_ok-parts.ensures.text in
    rw (c.in-Some.is) (first_answered c.in_ok-sources.ensures (λ places s. refl)
    (c.len-count.ensures ∙ sym c.deref.ensures.len ∙ ap length c.deref.ensures.value)
    (ap (λ (w : Wanted). places_of (Some w)) c.in_ok-parts.ensures.same)
    (near_answered c.args.by.now.options.now checked.graph checked.hierarchy searched.2.limits searched.2.kept c.args.within c.in-Some.near
    searched.0 c.in_ok-sources.sources.items _ (rw c.in_ok-text.ensures text)))

pub returns-clause-room : goal.returns-clause-room
returns-clause-room g c =
    let searched = rw c.in-Some.is at c.requires.room.near in
    record { scratches = c.requires.room.scratches; near = rw c.in_ok-parts.ensures.same searched }
