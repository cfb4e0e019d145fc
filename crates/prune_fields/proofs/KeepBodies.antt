-- The body that keeps fields, as it is built.
use Rattle.std.proofs.Common.{◌≡◌, ◌+◌, ℕ, suc, Bool, true, false, cond, ◌∷◌, refl, sym, ap, ◌∙◌, arith}
use Rattle.tac_syntax.specs.declared.statements.Rec.TheVariants.{Input}
use Rattle.tac_syntax.specs.Code.{Code, stop, plain, branch, again, each, joined, get_field, set_field, new_record, emit_record}
use Rattle.tac_syntax.specs.Contexts.{FieldSet}
use Rattle.prune_fields.specs.KeepFunctions.{keep_body, kept_fields, members_from}

joined-assoc : (a b c : Code) → joined (joined a b) c ≡ joined a (joined b c)
joined-assoc stop b c = refl
joined-assoc (plain s next) b c = ap (λ (x : Code). plain s x) (joined-assoc next b c)
joined-assoc (branch on body other next) b c = ap (λ (x : Code). branch on body other x) (joined-assoc next b c)
joined-assoc (again count body next) b c = ap (λ (x : Code). again count body x) (joined-assoc next b c)
joined-assoc (each name list body next) b c = ap (λ (x : Code). each name list body x) (joined-assoc next b c)

-- the statements for one field
abbrev pub field_kept : ℕ → Code
field_kept k = plain (get_field 0 Input k) (plain (set_field 0 k 0) stop)

pub field_put : (k : ℕ) (body some more : Code) → some ≡ joined body (plain (get_field 0 Input k) stop)
    → more ≡ joined some (plain (set_field 0 k 0) stop) → more ≡ joined body (field_kept k)
field_put k body some more e f =
    f ∙ ap (λ (c : Code). joined c (plain (set_field 0 k 0) stop)) e
    ∙ joined-assoc body (plain (get_field 0 Input k) stop) (plain (set_field 0 k 0) stop)

-- The body so far, followed by the code for the remaining fields, is the whole body.
abbrev pub IsBegun : FieldSet → (fields at : ℕ) → Code → Type 0
IsBegun s fields at body = (count : ℕ) → at + count ≡ fields → joined body (kept_fields (members_from s at count)) ≡ keep_body fields s

pub begun : (s : FieldSet) (fields : ℕ) → IsBegun s fields 0 (plain (new_record 0) stop)
begun s fields count e =
    (let same : count ≡ fields = omega (arith, e) in ap (λ (k : ℕ). plain (new_record 0) (kept_fields (members_from s 0 k))) same)

pub kept_one : (s : FieldSet) (fields at : ℕ) (body more : Code) → IsBegun s fields at body → s at ≡ true → more ≡ joined body (field_kept at)
    → IsBegun s fields (at + 1) more
kept_one s fields at body more h is e count q =
    let rest = kept_fields (members_from s (at + 1) count) in
    ap (λ (c : Code). joined c rest) e
    ∙ joined-assoc body (field_kept at) rest
    ∙ sym (ap (λ (b : Bool). joined body (kept_fields (cond b (at ∷ members_from s (at + 1) count) (members_from s (at + 1) count)))) is)
    ∙ h (suc count) (omega (arith, q))

pub dropped_one : (s : FieldSet) (fields at : ℕ) (body : Code) → IsBegun s fields at body → s at ≡ false → IsBegun s fields (at + 1) body
dropped_one s fields at body h is count q =
    sym (ap (λ (b : Bool). joined body (kept_fields (cond b (at ∷ members_from s (at + 1) count) (members_from s (at + 1) count)))) is)
    ∙ h (suc count) (omega (arith, q))

pub ended : (s : FieldSet) (fields : ℕ) (body whole : Code) → IsBegun s fields fields body → whole ≡ joined body (plain (emit_record 0) stop)
    → whole ≡ keep_body fields s
ended s fields body whole h e = e ∙ h 0 (omega arith)
