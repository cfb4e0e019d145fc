use Rattle.std.proofs.Common.{◌∙◌, ◌+◌, ◌<◌, List, arith, length, refl, sym, ap, subst}
use Rattle.std.proofs.lemmas.Bool.{both_ways}
use Rattle.plan_trees.specs.Plans.{PlanTree}
use Rattle.pact_operators.specs.Insertions.{HasRoomFor}
use Rattle.pact_operators.specs.Programs.{ProgramData, function_limit, is_operator_kind, operator_limit, times_of_kind}
use Rattle.prune_fields.specs.declared.pruning.Kept.{Kept}
use Rattle.prune_fields.specs.Needs.{need}
use Rattle.prune_fields.specs.PrunedPlans.{IsPrunedBelow}
use Rattle.prune_fields.proofs.CutsFound.{both_cut, none_spare, not_shipped}
use Rattle.prune_fields.proofs.PrunedSteps.{may_insert, no_room, not_cut, put_in}
use Rattle.prune_fields.proofs.pruning.pruned_at.Goals as goal

-- A Map needs room for one function.
abbrev pub Fits : ProgramData → Type 0
Fits p = (times_of_kind is_operator_kind p.ops < operator_limit) × (length p.functions < function_limit)

fits : (p : ProgramData) → HasRoomFor p 1 → Fits p
fits p room = (room.0, omega (arith, room.1))

has_room : (p : ProgramData) → Fits p → HasRoomFor p 1
has_room p some = (some.0, omega (arith, some.1))

pub returns-then-not-is_shipped-clause-pruned : goal.returns-then-not-is_shipped-clause-pruned
returns-then-not-is_shipped-clause-pruned c =
    let r = c.requires in
    not_cut r.program r.plan r.physical r.there r.so_far
    (not_shipped c.args.physical.now c.args.at c.args.program.now (sym c.if-not-is_shipped.true ∙ c.is_shipped.ensures))

pub returns-then-not-has_room-clause-pruned : goal.returns-then-not-has_room-clause-pruned
returns-then-not-has_room-clause-pruned c =
    let r = c.requires in
    no_room r.program r.plan r.physical r.there r.so_far
    (λ some. both_ways c.has_room.result c.if-not-has_room.true (c.has_room.ensures.1 (has_room c.args.so_far.program some)))

pub returns-then-not-has_spare-clause-pruned : goal.returns-then-not-has_spare-clause-pruned
returns-then-not-has_spare-clause-pruned c =
    let r = c.requires in
    not_cut r.program r.plan r.physical r.there r.so_far
    (none_spare c.args.physical.now c.args.at c.args.program.now (sym c.if-not-has_spare.true ∙ c.has_spare.ensures))

pub keep_at-requires : goal.keep_at-requires
keep_at-requires c =
    let r = c.requires in
    let cut =
    both_cut c.args.physical.now c.args.at c.args.program.now (sym c.if-not-is_shipped.false ∙ c.is_shipped.ensures)
    (sym c.if-not-has_spare.false ∙ c.has_spare.ensures) in
    let some = fits c.args.so_far.program (c.has_room.ensures.0 c.if-not-has_room.false) in
    let needs = c.needed_at-needed.ensures.needed ∙ ap (λ (t : PlanTree). need c.args.program.now t c.args.at) c.plan.ensures in
    may_insert r.program r.plan r.physical r.there r.so_far cut some c.needed_at-needed.result needs

pub returns-clause-pruned : goal.returns-clause-pruned
returns-clause-pruned c =
    let r = c.requires in
    let cut =
    both_cut c.args.physical.now c.args.at c.args.program.now (sym c.if-not-is_shipped.false ∙ c.is_shipped.ensures)
    (sym c.if-not-has_spare.false ∙ c.has_spare.ensures) in
    let some = fits c.args.so_far.program (c.has_room.ensures.0 c.if-not-has_room.false) in
    let needs = c.needed_at-needed.ensures.needed ∙ ap (λ (t : PlanTree). need c.args.program.now t c.args.at) c.plan.ensures in
    let k : Kept = record { at = c.args.at; fields = c.needed_at-needed.result } in
    let q = c.in_ok-program.program in
    let y = c.in_ok-program.physical in
    let of = c.in_ok-program.ensures in
    subst (λ (l : List Kept). IsPrunedBelow c.args.program.now c.args.physical.now (c.args.at + 1) q y l) (sym c.in_ok-push.ensures.items)
    (put_in r.program r.plan r.physical r.there r.so_far cut some c.needed_at-needed.result needs q y k of.program of.physical refl refl)
