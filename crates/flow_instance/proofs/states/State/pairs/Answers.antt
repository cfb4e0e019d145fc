use Rattle.std.proofs.lemmas.Result.{IfOk-weaker}
use Rattle.std.proofs.Common.{sym, ◌∙◌}
use Rattle.flow_instance.proofs.CallsOfOperators.{fields_of, has_function, left_built, of_cross, of_pairs, right_below_of}
use Rattle.flow_instance.proofs.TakenNotes.{pairs_crossed, pairs_matched}
use Rattle.flow_instance.proofs.states.State.pairs.Goals as goal

pub returns-then-crosses-clause-given : goal.returns-then-crosses-clause-given
returns-then-crosses-clause-given g c = IfOk-weaker c.cross_kept.result _ _ (λ out p.
    pairs_crossed g.L.Local.rows g.L.Local.key_fields g.L.Local.is_sealed c.args.self.now c.function.result.now c.args.rows.now out c.requires.ready.sound (sym c.crosses.ensures ∙ c.if-crosses.true) c.function.ensures p)
    c.cross_kept.ensures.given

pub returns-clause-given : goal.returns-clause-given
returns-clause-given g c = IfOk-weaker c.match_kept.result _ _ (λ out p.
    pairs_matched g.L.Local.rows g.L.Local.key_fields c.args.self.now c.function-2.result.now c.args.rows.now out c.function-2.ensures p)
    c.match_kept.ensures.given

pub function-requires : goal.function-requires
function-requires g c = has_function c.args.self.now.part c.requires.ready.sound.operator

pub function-requires-2 : goal.function-requires-2
function-requires-2 g c = has_function c.args.self.now.part c.requires.ready.sound.operator

pub cross_kept-requires-clause-kind : goal.cross_kept-requires-clause-kind
cross_kept-requires-clause-kind g c = λ lifetimes bound. (of_cross g.L.Local.rows g.L.Local.key_fields g.L.Local.is_sealed c.args.self.now c.requires.ready.sound c.function.result.now (sym c.crosses.ensures ∙ c.if-crosses.true) c.function.ensures).0

pub cross_kept-requires-clause-no_keys : goal.cross_kept-requires-clause-no_keys
cross_kept-requires-clause-no_keys g c = λ lifetimes bound. (of_cross g.L.Local.rows g.L.Local.key_fields g.L.Local.is_sealed c.args.self.now c.requires.ready.sound c.function.result.now (sym c.crosses.ensures ∙ c.if-crosses.true) c.function.ensures).1

pub cross_kept-requires-clause-sealed : goal.cross_kept-requires-clause-sealed
cross_kept-requires-clause-sealed g c = λ lifetimes bound. left_built g.L.Local.rows g.L.Local.key_fields g.L.Local.is_sealed c.args.self.now c.requires.ready c.requires.kind

pub cross_kept-requires-clause-left_widths : goal.cross_kept-requires-clause-left_widths
cross_kept-requires-clause-left_widths g c = λ lifetimes bound. fields_of g.L.Local.rows g.L.Local.key_fields g.L.Local.is_sealed c.args.self.now c.requires.ready.sound c.function.result.now (g.L.Local.rows c.args.self.now.left) c.function.ensures c.requires.ready.sound.left_wide

pub cross_kept-requires-clause-right_widths : goal.cross_kept-requires-clause-right_widths
cross_kept-requires-clause-right_widths g c = λ lifetimes bound. fields_of g.L.Local.rows g.L.Local.key_fields g.L.Local.is_sealed c.args.self.now c.requires.ready.sound c.function.result.now c.args.rows.now c.function.ensures c.requires.wide

pub match_kept-requires-clause-kind : goal.match_kept-requires-clause-kind
match_kept-requires-clause-kind g c = λ lifetimes bound. (of_pairs g.L.Local.rows g.L.Local.key_fields g.L.Local.is_sealed c.args.self.now c.requires.ready.sound c.function-2.result.now c.requires.kind c.function-2.ensures).0

pub match_kept-requires-clause-keys : goal.match_kept-requires-clause-keys
match_kept-requires-clause-keys g c = λ lifetimes bound. (of_pairs g.L.Local.rows g.L.Local.key_fields g.L.Local.is_sealed c.args.self.now c.requires.ready.sound c.function-2.result.now c.requires.kind c.function-2.ensures).1

pub match_kept-requires-clause-sealed : goal.match_kept-requires-clause-sealed
match_kept-requires-clause-sealed g c = λ lifetimes bound. left_built g.L.Local.rows g.L.Local.key_fields g.L.Local.is_sealed c.args.self.now c.requires.ready c.requires.kind

pub match_kept-requires-clause-right_below : goal.match_kept-requires-clause-right_below
match_kept-requires-clause-right_below g c = λ lifetimes bound. right_below_of g.L.Local.rows g.L.Local.key_fields g.L.Local.is_sealed c.args.self.now c.requires.ready.sound c.function-2.result.now c.function-2.ensures

pub match_kept-requires-clause-left_widths : goal.match_kept-requires-clause-left_widths
match_kept-requires-clause-left_widths g c = λ lifetimes bound. fields_of g.L.Local.rows g.L.Local.key_fields g.L.Local.is_sealed c.args.self.now c.requires.ready.sound c.function-2.result.now (g.L.Local.rows c.args.self.now.left) c.function-2.ensures c.requires.ready.sound.left_wide

pub match_kept-requires-clause-right_widths : goal.match_kept-requires-clause-right_widths
match_kept-requires-clause-right_widths g c = λ lifetimes bound. fields_of g.L.Local.rows g.L.Local.key_fields g.L.Local.is_sealed c.args.self.now c.requires.ready.sound c.function-2.result.now c.args.rows.now c.function-2.ensures c.requires.wide
