use Rattle.std.proofs.Common.{ℕ, List, decimal, sym, subst}
use Rattle.pact_record.specs.FieldSets.{has_field}
use Rattle.tac_syntax.specs.Code.{Code}
use Rattle.tac_syntax.specs.Valid.{IsValid}
use Rattle.tac_syntax.specs.declared.functions.Kind.TheVariants as kinds
use Rattle.prune_fields.proofs.KeepFunctions.{keep_valid}
use Rattle.prune_fields.proofs.keeping.keep_function.Goals as goal

pub seal-requires : goal.seal-requires
seal-requires c =
    subst (λ (w : List ℕ). IsValid (record { name = w; kind = kinds.Map; keys = 0; body = c.in_ok-body.body }) c.args.fields)
    (sym c.in_ok-name.ensures)
    (subst (λ (b : Code). IsValid (record { name = decimal c.args.number; kind = kinds.Map; keys = 0; body = b }) c.args.fields)
    (sym c.in_ok-body.ensures)
    (keep_valid c.args.number c.args.fields (has_field c.args.kept) c.requires.some c.requires.few))
