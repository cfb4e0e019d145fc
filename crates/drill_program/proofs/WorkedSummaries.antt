-- Checks of worked drills, by computing.
use Rattle.std.proofs.Common.{◌≡◌, [], codes, refl}
use Rattle.std.specs.Fmt.{digits}
use Rattle.drill_program.specs.Summary.{check_of, summary_text}

-- the row of seed 0 only
first_check : check_of (codes "1,-752\n") ≡ 44790612456
unfolding check_of
first_check = refl

first_summary : summary_text 1 1 (codes "1,-752\n") ≡ codes "rows 1\nout 1\ncheck 44790612456\n"
unfolding check_of digits
first_summary = refl

no_summary : summary_text 0 0 [] ≡ codes "rows 0\nout 0\ncheck 0\n"
unfolding check_of digits
no_summary = refl
