use Rattle.std.proofs.Common.{ℕ, refl, sym, subst, ◌∙◌}
use Rattle.pact_record.specs.Widths.{AreWide}
use Rattle.flow_instance.proofs.CallsOfOperators.{has_function, kept_wide, left_open, of_reduce, sides_of}
use Rattle.flow_instance.proofs.EndMarks.{cogroup_given, reduce_given}
use Rattle.flow_instance.proofs.KeptRecords.{wide_permuted}
use Rattle.flow_instance.proofs.OnOkTogether.{if_ok_two}
use Rattle.flow_instance.proofs.TakenNotes.{its_fields}
use Rattle.flow_instance.proofs.states.State.groups.Goals as goal

pub seal-requires : goal.seal-requires
seal-requires g c =
    let s = c.args.self.now in
    let sound = c.requires.sound in
    left_open g.L.Local.rows g.L.Local.key_fields g.L.Local.is_sealed s sound (sym c.is_pipelined.ensures ∙ c.if-is_pipelined.false)

pub function-requires : goal.function-requires
function-requires g c =
    let s = c.args.self.now in
    let sound = c.requires.sound in
    has_function s.part sound.operator

pub reduce_kept-requires-clause-kind : goal.reduce_kept-requires-clause-kind
reduce_kept-requires-clause-kind g c =
    let s = c.args.self.now in
    let sound = c.requires.sound in
    λ lifetimes bound. (of_reduce g.L.Local.rows g.L.Local.key_fields g.L.Local.is_sealed s sound c.function.result.now (sym c.reduces.ensures ∙ c.if-reduces.true) c.function.ensures).0

pub reduce_kept-requires-clause-key_count : goal.reduce_kept-requires-clause-key_count
reduce_kept-requires-clause-key_count g c =
    let s = c.args.self.now in
    let sound = c.requires.sound in
    λ lifetimes bound. (of_reduce g.L.Local.rows g.L.Local.key_fields g.L.Local.is_sealed s sound c.function.result.now (sym c.reduces.ensures ∙ c.if-reduces.true) c.function.ensures).1

pub reduce_kept-requires-clause-widths : goal.reduce_kept-requires-clause-widths
reduce_kept-requires-clause-widths g c =
    let s = c.args.self.now in
    let sound = c.requires.sound in
    λ lifetimes bound. kept_wide g.L.Local.rows g.L.Local.key_fields g.L.Local.is_sealed s sound c.function.result.now (g.L.Local.rows c.seal.new.self) c.function.ensures c.in_ok-seal.ensures.rows

pub returns-then-reduces : goal.returns-then-reduces
returns-then-reduces g c =
    let s = c.args.self.now in
    let sound = c.requires.sound in
    let kept = g.L.Local.rows c.seal.new.self in
    if_ok_two c.reduce_kept.result _ _ _ (λ out h wide. record {
      same = refl;
      given = reduce_given g.L.Local.rows g.L.Local.key_fields g.L.Local.is_sealed s c.function.result.now kept out sound (sym c.reduces.ensures ∙ c.if-reduces.true) c.function.ensures c.in_ok-seal.ensures.rows h;
      left_wide = wide_permuted s.part.fields (g.L.Local.rows s.left) kept c.in_ok-seal.ensures.rows sound.left_wide;
      right_wide = sound.right_wide;
      widths = subst (λ (n : ℕ). AreWide n out) (its_fields s.part c.function.result.now sound.operator c.function.ensures) wide;
    })
    c.reduce_kept.ensures.given c.reduce_kept.ensures.widths

pub seal-requires-2 : goal.seal-requires-2
seal-requires-2 g c = c.requires.sound.right_sealed

pub function-requires-2 : goal.function-requires-2
function-requires-2 g c =
    let s = c.args.self.now in
    let sound = c.requires.sound in
    has_function s.part sound.operator

pub cogroup_kept-requires-clause-sides : goal.cogroup_kept-requires-clause-sides
cogroup_kept-requires-clause-sides g c =
    let s = c.args.self.now in
    let sound = c.requires.sound in
    λ lifetimes bound. sides_of g.L.Local.rows g.L.Local.key_fields g.L.Local.is_sealed s sound c.seal.new.self c.seal-2.new.self (sym c.is_pipelined.ensures ∙ c.if-is_pipelined.false) (sym c.reduces.ensures ∙ c.if-reduces.false) c.in_ok-seal.ensures.rows c.in_ok-seal-2.ensures.rows c.in_ok-seal.ensures.keys c.in_ok-seal-2.ensures.keys c.function-2.result.now c.function-2.ensures

pub returns : goal.returns
returns g c =
    let s = c.args.self.now in
    let sound = c.requires.sound in
    let lefts = g.L.Local.rows c.seal.new.self in
    let rights = g.L.Local.rows c.seal-2.new.self in
    if_ok_two c.cogroup_kept.result _ _ _ (λ out h wide. record {
      same = refl;
      given = cogroup_given g.L.Local.rows g.L.Local.key_fields g.L.Local.is_sealed s c.function-2.result.now lefts rights out sound (sym c.is_pipelined.ensures ∙ c.if-is_pipelined.false) (sym c.reduces.ensures ∙ c.if-reduces.false) c.function-2.ensures c.in_ok-seal.ensures.rows c.in_ok-seal-2.ensures.rows h;
      left_wide = wide_permuted s.part.fields (g.L.Local.rows s.left) lefts c.in_ok-seal.ensures.rows sound.left_wide;
      right_wide = wide_permuted s.part.fields (g.L.Local.rows s.right) rights c.in_ok-seal-2.ensures.rows sound.right_wide;
      widths = subst (λ (n : ℕ). AreWide n out) (its_fields s.part c.function-2.result.now sound.operator c.function-2.ensures) wide;
    })
    c.cogroup_kept.ensures.given c.cogroup_kept.ensures.widths
