use Rattle.std.proofs.Common.{◌≡◌, true, false, sym, subst}
use Rattle.tac_text.specs.FunctionStates.{OpenData}
use Rattle.tac_text.specs.Places.{MayInside, FitsBuild}
use Rattle.tac_text.proofs.BodySteps.{fits_step, IsBuilt-inside}
use Rattle.tac_text.proofs.open_functions.OpenFunction.add.Goals as goal

pub invariant_of-self : goal.invariant_of-self
invariant_of-self c =
    let l = c.requires.0 in
    let b = c.self.inside.builder in
    let may : MayInside true b l = subst (λ (o : OpenData). MayInside true o.build l) (sym c.self.view_is) c.requires.2 in
    let built = IsBuilt-inside true b c.step.new.self l c.in-Ok-true.field-0 c.self.invariant.1 may (c.in-Ok-true.ensures l c.requires.1) in
    (c.self.invariant.0, subst (FitsBuild true) (sym built.1) (fits_step true b l c.self.invariant.1 may))

pub unreachable-requires : goal.unreachable-requires
unreachable-requires c =
    let l = c.requires.0 in
    let b = c.self.inside.builder in
    let may : MayInside true b l = subst (λ (o : OpenData). MayInside true o.build l) (sym c.self.view_is) c.requires.2 in
    let built = IsBuilt-inside true b c.step.new.self l c.in-Ok-false.field-0 c.self.invariant.1 may (c.in-Ok-false.ensures l c.requires.1) in
    let taken : c.in-Ok-false.field-0 ≡ true = built.0 in
    let refused : c.in-Ok-false.field-0 ≡ false = c.in-Ok-false.field-0-test in
    cc
