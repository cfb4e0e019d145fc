-- A draft that can be spelled still can be with one more declaration.
use Rattle.std.proofs.Common.{◌+◌, ℕ, Bool, true, false, if◌then◌else◌, List, [], ◌∷◌, ◌++◌, length, refl, sym, subst, length-append}
use Rattle.tac_syntax.specs.declared.functions.Function.{Function}
use Rattle.pact_record.proofs.Lists.{AllByRecursion-last}
use Rattle.tac_syntax.specs.Functions.{IsSpelledFunction}
use Rattle.tac_syntax.specs.declared.declarations.Decl.{Decl}
use Rattle.tac_syntax.specs.declared.declarations.Decl.TheVariants.{Source, Function as FunctionDecl, Op, Sink}
use Rattle.tac_syntax.specs.Declarations.{IsSpelledDecl}
use Rattle.tac_syntax.specs.FieldRegisters.{Takes, has_registers}
use Rattle.tac_syntax.specs.Drafts.{AreDeclared, DraftData, IsSpelledDraft}

AreDeclared-append : (version n mid count : ℕ) (decls more : List Decl) → AreDeclared version n mid decls → AreDeclared version mid count more → AreDeclared version n count (decls ++ more)
AreDeclared-append version n mid count [] more h k = subst (λ (m : ℕ). AreDeclared version m count more) (sym h) k
AreDeclared-append version n mid count (Source name file columns ∷ decls) more h k = (h.0, AreDeclared-append version n mid count decls more h.1 k)
AreDeclared-append version n mid count (FunctionDecl number ∷ decls) more h k = (h.0, AreDeclared-append version (n + 1) mid count decls more h.1 k)
AreDeclared-append version n mid count (Op name kind function left right left_keys right_keys ∷ decls) more h k = (h.0, AreDeclared-append version n mid count decls more h.1 k)
AreDeclared-append version n mid count (Sink input fields ∷ decls) more h k = (h.0, AreDeclared-append version n mid count decls more h.1 k)

AreDeclared-one : (version count : ℕ) (decl : Decl) → IsSpelledDecl version decl → AreDeclared version count count (decl ∷ [])
AreDeclared-one version count (Source name file columns) h = (h, refl)
AreDeclared-one version count (FunctionDecl number) h = absurd h
AreDeclared-one version count (Op name kind function left right left_keys right_keys) h = (h, refl)
AreDeclared-one version count (Sink input fields) h = (h, refl)

-- for a declaration that was pushed, and for one that was refused
pub IsSpelledDraft-decl : (d : DraftData) (decl : Decl) (pushed : Bool) → IsSpelledDecl d.version decl → IsSpelledDraft d
    → IsSpelledDraft (record { version = d.version; fields = d.fields; functions = d.functions; decls = if pushed then d.decls ++ decl ∷ [] else d.decls })
IsSpelledDraft-decl d decl false s h = h
IsSpelledDraft-decl d decl true s h =
    let count = length d.functions in
    record {
      version = h.version;
      some_field = h.some_field;
      few_fields = h.few_fields;
      functions = h.functions;
      registers = h.registers;
      declared = AreDeclared-append d.version 0 count count d.decls (decl ∷ []) h.declared (AreDeclared-one d.version count decl s);
    }

pub IsSpelledDraft-function : (d : DraftData) (function : Function) → IsSpelledFunction function → Takes (has_registers d.version) function.body → IsSpelledDraft d
    → IsSpelledDraft (record { version = d.version; fields = d.fields; functions = d.functions ++ function ∷ []; decls = d.decls ++ FunctionDecl (length d.functions) ∷ [] })
IsSpelledDraft-function d function s t h =
    let count = length d.functions in
    let decl = FunctionDecl count in
    let more : AreDeclared d.version count (length (d.functions ++ function ∷ [])) (decl ∷ []) = (refl, sym (length-append d.functions (function ∷ []))) in
    record {
      version = h.version;
      some_field = h.some_field;
      few_fields = h.few_fields;
      functions = AllByRecursion-last IsSpelledFunction d.functions function h.functions s;
      registers = AllByRecursion-last (λ f. Takes (has_registers d.version) f.body) d.functions function h.registers t;
      declared = AreDeclared-append d.version 0 count (length (d.functions ++ function ∷ [])) d.decls (decl ∷ []) h.declared more;
    }
