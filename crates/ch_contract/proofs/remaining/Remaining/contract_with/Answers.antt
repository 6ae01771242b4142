-- The legs without the node, with its shortcuts put in, are the legs after its contraction, and its own are set aside.
use Rattle.std.proofs.Common.{sym, ◌∙◌, subst, All}
use Rattle.std.proofs.lemmas.Result.{IfOk-weaker}
use Rattle.std.proofs.lemmas.List.Elements.{All-from_get_or, Contains-get_or}
use Rattle.ch_contract.specs.declared.shortcut.Shortcut.{Shortcut}
use Rattle.ch_contract.specs.Legs.{IsLegWithin, turned_legs}
use Rattle.ch_contract.specs.Contraction.{shortcut_label}
use Rattle.ch_contract.specs.Remaining.{IsSetAside, legs_of}
use Rattle.ch_contract.proofs.theory.Contracting.{after, pairs_of_shortcuts, shortcut_within}
use Rattle.ch_contract.proofs.code.ListEdits.{no_shortcut}
use Rattle.ch_contract.proofs.remaining.Remaining.contract_with.Goals as goal

pub put-requires-clause-ordered : goal.put-requires-clause-ordered
put-requires-clause-ordered c = c.requires.shortcuts.1.ordered

pub put-requires-clause-within : goal.put-requires-clause-within
put-requires-clause-within c =
    let n = c.args.self.nodes in
    let v = c.args.v in
    let list = c.args.shortcuts.now in
    let pairs = pairs_of_shortcuts n c.requires.shortcuts.0 (legs_of c.args.self) v list c.requires.shortcuts.1 in
    subst (λ m. All (λ (s : Shortcut). IsLegWithin m s.from s.to (shortcut_label v s)) list) (sym c.take_out.ensures.nodes)
    (All-from_get_or (λ (s : Shortcut). IsLegWithin n s.from s.to (shortcut_label v s)) list no_shortcut
    (λ i lt. shortcut_within n (legs_of c.args.self) v list c.take_out.ensures.limits pairs _
    (pairs _ (Contains-get_or list i no_shortcut lt))))

pub returns-clause-nodes : goal.returns-clause-nodes
returns-clause-nodes c = IfOk-weaker c.put.result _ _ (λ r e. e ∙ c.take_out.ensures.nodes) c.put.ensures.nodes

pub returns-clause-legs : goal.returns-clause-legs
returns-clause-legs c =
    IfOk-weaker c.put.result _ _ (λ r put.
    after c.args.self.nodes c.requires.shortcuts.0 c.args.v (legs_of c.args.self) (legs_of c.take_out.result) (legs_of r)
    c.args.shortcuts.now c.take_out.ensures.limits c.requires.shortcuts.1 c.take_out.ensures.legs put) c.put.ensures.legs

pub returns-clause-up : goal.returns-clause-up
returns-clause-up c =
    IfOk-weaker c.put.result _ _ (λ r same. subst (λ z. IsSetAside (legs_of c.args.self) c.args.v c.args.self.ups z) (sym same.0)
    c.take_out.ensures.up) c.put.ensures.aside

pub returns-clause-down : goal.returns-clause-down
returns-clause-down c =
    IfOk-weaker c.put.result _ _ (λ r same. subst (λ z. IsSetAside (turned_legs (legs_of c.args.self)) c.args.v c.args.self.downs z)
    (sym same.1) c.take_out.ensures.down) c.put.ensures.aside
