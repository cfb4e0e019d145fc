-- What is reached over one more operator.
use Rattle.std.proofs.Common.{◌≡◌, ◌||◌, ◌&&◌, ℕ, zero, suc, Bool, false, List, [], ◌∷◌, map, refl, ap, sym, ◌∙◌}
use Rattle.std.proofs.Math.Bool.{and-false}
use Rattle.std.specs.List.{list_any}
use Rattle.tac_syntax.specs.declared.declarations.Decl.{Decl}
use Rattle.tac_syntax.specs.declared.declarations.Decl.TheVariants.{Source, Function as FunctionDecl, Op as OpDecl, Sink}
use Rattle.tac_syntax.specs.Drafts.{DraftData}
use Rattle.program_check.specs.ProgramRules.{is_operator, is_reached, is_reader, name_at}
use Rattle.pact_operators.specs.Resolved.{is_among, sink_inputs}
use Rattle.program_check.specs.RuleTests.{is_reached_reader, is_reached_within, reached_within}

reader_marked : (name : List ℕ) (decl : Decl) (reached : Bool) → (is_reader name decl && (is_operator decl && reached)) ≡ (is_reader name decl && reached)
reader_marked name (Source own file columns) reached = refl
reader_marked name (FunctionDecl number) reached = refl
reader_marked name (OpDecl own kind function left right left_keys right_keys) reached = refl
reader_marked name (Sink input fields) reached = refl

marked : (n : ℕ) (d : DraftData) (name : List ℕ) (decls : List Decl)
    → is_reached_reader name decls (map (reached_within n d) decls) ≡ list_any (λ decl. is_reader name decl && is_reached_within n d (name_at d.functions decl)) decls
marked n d name [] = refl
marked n d name (decl ∷ decls) =
    ap (λ (b : Bool). b || is_reached_reader name decls (map (reached_within n d) decls)) (reader_marked name decl (is_reached_within n d (name_at d.functions decl)))
    ∙ ap (λ (b : Bool). (is_reader name decl && is_reached_within n d (name_at d.functions decl)) || b) (marked n d name decls)

none : (name : List ℕ) (decls : List Decl) → list_any (λ decl. is_reader name decl && false) decls ≡ false
none name [] = refl
none name (decl ∷ decls) = ap (λ (b : Bool). b || list_any (λ decl. is_reader name decl && false) decls) (and-false (is_reader name decl)) ∙ none name decls

-- A name that no sink names is reached if one of the marked operators reads it, and only then.
pub reached_by : (n : ℕ) (d : DraftData) (name : List ℕ) (decls : List Decl) (marks : List Bool) (r : Bool) → decls ≡ d.decls → marks ≡ map (reached_within n d) d.decls
    → r ≡ is_reached_reader name decls marks → is_among name (sink_inputs d.decls) ≡ false → r ≡ is_reached n d name
reached_by zero d name decls marks r e m h unnamed =
    rw (h, e, m) (marked zero d name d.decls ∙ none name d.decls ∙ sym unnamed)
reached_by (suc n) d name decls marks r e m h unnamed =
    let rest = list_any (λ (decl : Decl). is_reader name decl && is_reached n d (name_at d.functions decl)) d.decls in
    rw (h, e, m) (marked (suc n) d name d.decls ∙ sym (ap (λ (b : Bool). b || rest) unnamed))
