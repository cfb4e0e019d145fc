-- A body with one loop is its three pieces. A rule that the body keeps, each piece keeps.
use Rattle.std.proofs.Common.{◌≡◌, ℕ, Bool, true, false, not, ◌||◌, if◌then◌else◌, refl, ap}
use Rattle.std.proofs.lemmas.Bool.{and_parts, or_parts, not-true}
use Rattle.pact_record.specs.Value.{is_true}
use Rattle.tac_syntax.specs.declared.functions.Kind.TheVariants.{Reduce}
use Rattle.tac_syntax.specs.declared.statements.LoopList.{LoopList}
use Rattle.tac_syntax.specs.declared.statements.LoopList.TheVariants.{Group, Left as LeftGroup, Right as RightGroup}
use Rattle.tac_syntax.specs.Code.{Code, stop, plain, branch, again, each, joined}
use Rattle.tac_syntax.specs.Call.{Store, value_in, after, rows_of}
use Rattle.tac_syntax.specs.Exec.{times, for_each, exec}
use Rattle.tac_syntax.specs.WellFormed.{HasList, IsWellFormed}
use Rattle.order_free.specs.Registers.{Register, no_registers, is_value, occurs, reads_first, has_first}
use Rattle.order_free.specs.Liveness.{live}
use Rattle.order_free.specs.OrderFree.{IsLoopFree, AreLoopsFree}
use Rattle.combine_rule.specs.Pieces.{has_each, has_one_loop, occurs_in, front_of, loop_of, rest_of}

pub exec-joined : (c d : Code) (s : Store) → exec (joined c d) s ≡ exec d (exec c s)
exec-joined stop d s = refl
exec-joined (plain a next) d s = exec-joined next d (after a s)
exec-joined (branch on body other next) d s = exec-joined next d (if is_true (value_in s on) then exec body s else exec other s)
exec-joined (again count body next) d s = exec-joined next d (times count (exec body) s)
exec-joined (each name list body next) d s = exec-joined next d (for_each name (rows_of s.input list) (exec body) s)

-- a property of all three pieces
abbrev pub OfAll : (Code → Type 0) → Code → Type 0
OfAll P c = P (front_of c) × P (loop_of c) × P (rest_of c)

pub record ArePieces (F : ℕ) (c : Code) : Type 0 where
  pub whole : c ≡ joined (front_of c) (each 1 Group (loop_of c) (rest_of c))
  pub front_well : IsWellFormed Reduce F 0 (front_of c)
  pub loop_well : IsWellFormed Reduce F 1 (loop_of c)
  pub rest_well : IsWellFormed Reduce F 0 (rest_of c)
  pub flat : OfAll (λ d. has_each d ≡ false) c
  pub no_first : has_first c ≡ false → OfAll (λ d. has_first d ≡ false) c
  pub free : AreLoopsFree c no_registers → IsLoopFree (loop_of c) (live (rest_of c) no_registers)
  pub unused : (r : Register) → occurs_in c r ≡ false → OfAll (λ d. occurs_in d r ≡ false) c

group_list : (list : LoopList) → HasList Reduce list → list ≡ Group
group_list Group h = refl
group_list LeftGroup h = cc
group_list RightGroup h = cc

none : (a b : Bool) → a ≡ false → b ≡ false → (a || b) ≡ false
none true b p q = cc
none false b p q = q

pub pieces : (F : ℕ) (c : Code) → IsWellFormed Reduce F 0 c → has_one_loop c ≡ true → ArePieces F c
pieces F stop w h = cc
pieces F (plain a next) w h =
    let p = pieces F next w.1 h in
    record {
      whole = ap (plain a) p.whole;
      front_well = (w.0, p.front_well);
      loop_well = p.loop_well;
      rest_well = p.rest_well;
      flat = p.flat;
      no_first = λ f.
          let g = or_parts (reads_first a) (has_first next) f in
          let q = p.no_first g.1 in
          (none (reads_first a) (has_first (front_of next)) g.0 q.0, q.1, q.2);
      free = λ f. p.free f;
      unused = λ r f.
          let g = or_parts (occurs a r) (occurs_in next r) f in
          let q = p.unused r g.1 in
          (none (occurs a r) (occurs_in (front_of next) r) g.0 q.0, q.1, q.2);
    }
pieces F (branch on body other next) w h =
    let e = and_parts (not (has_each body || has_each other)) (has_one_loop next) h in
    let e2 = or_parts (has_each body) (has_each other) (not-true (has_each body || has_each other) e.0) in
    let p = pieces F next w.2 e.1 in
    record {
      whole = ap (branch on body other) p.whole;
      front_well = (w.0, w.1, p.front_well, w.3);
      loop_well = p.loop_well;
      rest_well = p.rest_well;
      flat = (none (has_each body) (has_each other || has_each (front_of next)) e2.0 (none (has_each other) (has_each (front_of next)) e2.1 p.flat.0), p.flat.1, p.flat.2);
      no_first = λ f.
          let g = or_parts (has_first body) (has_first other || has_first next) f in
          let g2 = or_parts (has_first other) (has_first next) g.1 in
          let q = p.no_first g2.1 in
          (none (has_first body) (has_first other || has_first (front_of next)) g.0 (none (has_first other) (has_first (front_of next)) g2.0 q.0), q.1, q.2);
      free = λ f. p.free f.2;
      unused = λ r f.
          let g0 = or_parts (is_value on r) (occurs_in body r || (occurs_in other r || occurs_in next r)) f in
          let g = or_parts (occurs_in body r) (occurs_in other r || occurs_in next r) g0.1 in
          let g2 = or_parts (occurs_in other r) (occurs_in next r) g.1 in
          let q = p.unused r g2.1 in (
            none (is_value on r) (occurs_in body r || (occurs_in other r || occurs_in (front_of next) r)) g0.0
                (none (occurs_in body r) (occurs_in other r || occurs_in (front_of next) r) g.0 (none (occurs_in other r) (occurs_in (front_of next) r) g2.0 q.0)),
            q.1,
            q.2,
          );
    }
pieces F (again count body next) w h =
    let e = and_parts (not (has_each body)) (has_one_loop next) h in
    let p = pieces F next w.2 e.1 in
    record {
      whole = ap (again count body) p.whole;
      front_well = (w.0, w.1, p.front_well);
      loop_well = p.loop_well;
      rest_well = p.rest_well;
      flat = (none (has_each body) (has_each (front_of next)) (not-true (has_each body) e.0) p.flat.0, p.flat.1, p.flat.2);
      no_first = λ f.
          let g = or_parts (has_first body) (has_first next) f in
          let q = p.no_first g.1 in
          (none (has_first body) (has_first (front_of next)) g.0 q.0, q.1, q.2);
      free = λ f. p.free f.1;
      unused = λ r f.
          let g = or_parts (occurs_in body r) (occurs_in next r) f in
          let q = p.unused r g.1 in
          (none (occurs_in body r) (occurs_in (front_of next) r) g.0 q.0, q.1, q.2);
    }
pieces F (each name list body next) w h =
    let e = or_parts (has_each body) (has_each next) (not-true (has_each body || has_each next) h) in
    record {
      whole = λ i. each (w.0 i) (group_list list w.1 i) body next;
      front_well = tt;
      loop_well = w.2;
      rest_well = w.3;
      flat = (refl, e.0, e.1);
      no_first = λ f. let g = or_parts (has_first body) (has_first next) f in (refl, g.0, g.1);
      free = λ f. f.0;
      unused = λ r f. let g = or_parts (occurs_in body r) (occurs_in next r) f in (refl, g.0, g.1);
    }
