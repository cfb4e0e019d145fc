-- Code without a loop over a group does the same for every group.
use Rattle.std.proofs.Common.{◌≡◌, ℕ, zero, suc, Bool, true, false, ◌||◌, if◌then◌else◌, List, [], ◌∷◌, refl, sym, ap, ◌∙◌}
use Rattle.std.proofs.lemmas.Bool.{or_parts}
use Rattle.pact_record.specs.declared.values.Value.{Value}
use Rattle.pact_record.specs.Value.{is_true}
use Rattle.tac_syntax.specs.declared.statements.Rec.{Rec}
use Rattle.tac_syntax.specs.declared.statements.Rec.TheVariants.{Reg, Loop, Input, Left, Right, Join, First}
use Rattle.tac_syntax.specs.Code.{Simple, load_int, load_text, load_null, move_value, get_field, get_at, get_key, apply_one, apply_two, new_record, copy_record, set_field, set_at, emit_record, Code, stop, plain, branch, again, each}
use Rattle.tac_syntax.specs.Call.{Store, CallInput, of_group, named_record, value_in, numbered, at_numbered, put_value, put_record, bind, after}
use Rattle.pact_record.specs.Record.{at_field}
use Rattle.tac_syntax.specs.Exec.{times, for_each, exec}
use Rattle.order_free.specs.Registers.{is_first, reads_first, has_first}
use Rattle.combine_rule.specs.Pieces.{has_each}

abbrev pub with_input : CallInput → Store → Store
with_input x s = record s { input = x }

module _ (key : List Value) where
  -- the store with another group of the key as its input
  abbrev pub over : List (List Value) → Store → Store
  over group s = with_input (of_group key group) s

  -- a step of execution that does the same for every group
  abbrev pub Moves : (Store → Store) → Type 0
  Moves f = (group : List (List Value)) (s : Store) → f (over group s) ≡ over group (f (over [] s))

  pub moves-both : (f g : Store → Store) → Moves f → Moves g → Moves (λ s. g (f s))
  moves-both f g p q group s =
      ap g (p group s) ∙ q group (f (over [] s)) ∙ ap (λ (t : Store). over group (g t)) (sym (p [] s))

  named-moves : (from : Rec) → is_first from ≡ false → (group : List (List Value)) (s : Store) → named_record (over group s) from ≡ named_record (over [] s) from
  named-moves (Reg k) f group s = refl
  named-moves (Loop name) f group s = refl
  named-moves Input f group s = refl
  named-moves Left f group s = refl
  named-moves Right f group s = refl
  named-moves Join f group s = refl
  named-moves First f group s = cc

  after-moves : (a : Simple) → reads_first a ≡ false → Moves (after a)
  after-moves (load_int to v) f group s = refl
  after-moves (load_text to bytes) f group s = refl
  after-moves (load_null to) f group s = refl
  after-moves (move_value to from) f group s = refl
  after-moves (get_field to from field) f group s = ap (λ (r : List Value). over group (put_value s to (at_field r field))) (named-moves from f group s)
  after-moves (get_at to from at) f group s =
      ap (λ (r : List Value). over group (put_value s to (at_numbered r (numbered s.fields (value_in s at))))) (named-moves from f group s)
  after-moves (get_key to at) f group s = refl
  after-moves (apply_one to op a) f group s = refl
  after-moves (apply_two to op a b) f group s = refl
  after-moves (new_record to) f group s = refl
  after-moves (copy_record to from) f group s = ap (λ (r : List Value). over group (put_record s to r)) (named-moves from f group s)
  after-moves (set_field to field v) f group s = refl
  after-moves (set_at to at v) f group s = refl
  after-moves (emit_record from) f group s = refl

  either-moves : (on : ℕ) (f g : Store → Store) → Moves f → Moves g → Moves (λ s. if is_true (value_in s on) then f s else g s)
  either-moves on f g p q group s = at (is_true (value_in s on)) where
    at : (b : Bool) → (if b then f (over group s) else g (over group s)) ≡ over group (if b then f (over [] s) else g (over [] s))
    at true = p group s
    at false = q group s

  times-moves : (k : ℕ) (f : Store → Store) → Moves f → Moves (times k f)
  times-moves zero f p group s = refl
  times-moves (suc k) f p group s = moves-both f (times k f) p (times-moves k f p) group s

  pub turns-move : (name : ℕ) (rows : List (List Value)) (f : Store → Store) → Moves f → Moves (for_each name rows f)
  turns-move name [] f p group s = refl
  turns-move name (row ∷ rows) f p group s = moves-both (λ t. f (bind t name row)) (for_each name rows f) (λ g t. p g (bind t name row)) (turns-move name rows f p) group s

  pub exec-moves : (c : Code) → has_each c ≡ false → has_first c ≡ false → Moves (exec c)
  exec-moves stop h f = λ group s. refl
  exec-moves (plain a next) h f =
      let g = or_parts (reads_first a) (has_first next) f in
      moves-both (after a) (exec next) (after-moves a g.0) (exec-moves next h g.1)
  exec-moves (branch on body other next) h f =
      let e = or_parts (has_each body) (has_each other || has_each next) h in
      let e2 = or_parts (has_each other) (has_each next) e.1 in
      let g = or_parts (has_first body) (has_first other || has_first next) f in
      let g2 = or_parts (has_first other) (has_first next) g.1 in
      moves-both (λ s. if is_true (value_in s on) then exec body s else exec other s) (exec next)
      (either-moves on (exec body) (exec other) (exec-moves body e.0 g.0) (exec-moves other e2.0 g2.0)) (exec-moves next e2.1 g2.1)
  exec-moves (again count body next) h f =
      let e = or_parts (has_each body) (has_each next) h in
      let g = or_parts (has_first body) (has_first next) f in
      moves-both (times count (exec body)) (exec next) (times-moves count (exec body) (exec-moves body e.0 g.0)) (exec-moves next e.1 g.1)
  exec-moves (each name list body next) h f = cc
