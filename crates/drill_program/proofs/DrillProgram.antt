-- Some text spells the draft of a drill, and what holds for every program holds for its program.
use Rattle.std.proofs.Common.{◌≤◌, ℕ, pos, FitsSigned, w64, inl, rules, refl, arith}
use Rattle.tac_syntax.specs.Drafts.{IsSpelledDraft}
use Rattle.tac_syntax.specs.Grammar.{IsSpelled}
use Rattle.pact_operators.specs.Programs.{IsProgram}
use Rattle.program_check.proofs.ProgramsFromRules.{is-program}
use Rattle.drill_program.specs.Drill.{drill_draft, drill_functions, drill_program, low, total}
use Rattle.drill_program.proofs.DrillKept.{are_validated, drill_keeps, is_program}

-- ---- spelled

fits : (n : ℕ) → n ≤ 1000 → FitsSigned w64 (pos n)
fits n h = search (rules, h)

n0 : 0 ≤ 255
n0 = omega arith

n1 : 1 ≤ 255
n1 = omega arith

n2 : 2 ≤ 255
n2 = omega arith

n3 : 3 ≤ 255
n3 = omega arith

total_spelled : IsSpelled 0 total.body
total_spelled =
    ((n0, fits 0 (omega arith)), (((omega arith, (omega arith, omega arith)), ((n1, (omega arith, omega arith), n1), ((n0, n0, n1), tt)), (n0, ((n2, n0), ((n0, n0, n2), ((n0, n3, n0), (n0, tt))))))))

low_spelled : IsSpelled 0 low.body
low_spelled = ((n0, tt, n0), ((n1, fits 500 (omega arith)), ((n2, n0, n1), ((n2, ((n0, tt), (n0, tt)), tt, tt)))))

pub is_spelled : IsSpelledDraft drill_draft
is_spelled = record {
  version = inl refl;
  some_field = omega arith;
  few_fields = omega arith;
  functions = (record { name = refl; keys = (omega arith, omega arith); body = total_spelled }, (record { name = refl; keys = refl; body = low_spelled }, tt));
  registers = ((tt, ((tt, (tt, tt)), (tt, (tt, (tt, (tt, (tt, tt))))))), ((tt, (tt, (tt, ((tt, (tt, tt)), tt, tt)))), tt));
  declared = (
    (refl, refl, record { some = omega arith; few = omega arith; numbers = (n0, (n1, (n2, tt))) }),
    (
      refl,
      (
        refl,
        (
          (refl, refl, refl, (refl, record { some = omega arith; few = omega arith; numbers = (n0, tt) }, refl)),
          ((refl, refl, refl, (refl, refl, refl)), ((refl, record { some = omega arith; few = omega arith; numbers = (n0, (n3, tt)) }), refl)),
        ),
      ),
    ),
  );
}

-- ---- a program

pub is_a_program : IsProgram drill_program
is_a_program = is-program (record { draft = drill_draft; valids = drill_functions }) drill_program drill_keeps is_spelled are_validated is_program
