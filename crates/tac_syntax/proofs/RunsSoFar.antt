-- How far a body, the turns of a `repeat` and the records of an `each` have come.
use Rattle.std.proofs.Common.{◌≡◌, ◌<◌, ◌+◌, ℕ, suc, List, ◌∷◌, ◌++◌, length, drop, get_or, refl, ap, sym, ◌∙◌, subst}
use Rattle.std.proofs.lemmas.List.{drop_more}
use Rattle.std.specs.List.{AllByRecursion}
use Rattle.pact_record.specs.declared.values.Value.{Value}
use Rattle.tac_syntax.specs.declared.statements.Stmt.{Stmt}
use Rattle.tac_syntax.specs.Code.{Code, stop}
use Rattle.tac_syntax.specs.Trees.{Statement, one_line, choice, turning, going_through, onto, statement_of, only, code_of}
use Rattle.tac_syntax.specs.Call.{Store, bind}
use Rattle.tac_syntax.specs.Exec.{times, for_each, exec}
use Rattle.tac_syntax.proofs.Bodies.{code_of-drop, placed-onto}
use Rattle.tac_syntax.specs.Places.{placed, in_if, in_repeat, in_each}
use Rattle.pact_record.specs.Widths.{AreWide}
use Rattle.tac_syntax.specs.InRange.{IsInRange}
use Rattle.tac_syntax.specs.Ready.{FitsStore, IsReady, IsReadyIn, CanStart}
use Rattle.pact_record.proofs.Lists.{AllByRecursion-left, AllByRecursion-right}
use Rattle.tac_syntax.proofs.Fitting.{CanAct-fits, next_name-over, value_register, Fits-bind, Fits-out_of_each, Fits-exec}

-- ---- a body that is ready

IsReady-exec : (c : Code) (s : Store) → IsReady c s → IsReady c (exec c s)
IsReady-exec c s r = record { place = r.place; in_range = r.in_range; fits = Fits-exec c r.place s r.in_range r.fits }

pub fields-exec : (c : Code) (s : Store) → IsReady c s → (exec c s).fields ≡ s.fields
fields-exec c s r = sym (Fits-exec c r.place s r.in_range r.fits).fields ∙ r.fits.fields

pub IsReady-bind : (name : ℕ) (body : Code) (s : Store) (row : List Value) → IsReadyIn name body s → IsReady body (bind s name row)
IsReady-bind name body s row r = record { place = in_each r.place; in_range = r.in_range; fits = Fits-bind r.place name row s r.next_name r.fits }

IsReadyIn-exec : (name : ℕ) (body : Code) (s : Store) (row : List Value) → IsReadyIn name body s → IsReadyIn name body (exec body (bind s name row))
IsReadyIn-exec name body s row r = record {
  place = r.place;
  next_name = r.next_name;
  in_range = r.in_range;
  fits = Fits-out_of_each r.place (exec body (bind s name row)) (Fits-exec body (in_each r.place) (bind s name row) r.in_range (Fits-bind r.place name row s r.next_name r.fits));
}

CanStart-ready : (stmt : Statement) (next : Code) (s : Store) → IsReady (onto stmt next) s → CanStart stmt s
CanStart-ready (one_line a) next s r = CanAct-fits r.place a s r.in_range.0 r.fits
CanStart-ready (choice on body other) next s r =
    let p = r.place in
    let h = r.fits in
    let rest = placed (in_if p) other ++ placed p next in
    let inside = AllByRecursion-left IsInRange (placed (in_if p) body) rest r.in_range.1 in
    let outside = AllByRecursion-left IsInRange (placed (in_if p) other) (placed p next) (AllByRecursion-right IsInRange (placed (in_if p) body) rest r.in_range.1) in
    let fits : FitsStore (in_if p) s = record { fields = h.fields; kind = h.kind; keys = h.keys; lists = h.lists } in (
      value_register on r.in_range.0.registers,
      record { place = in_if p; in_range = inside; fits = fits },
      record { place = in_if p; in_range = outside; fits = fits },
    )
CanStart-ready (turning count body) next s r =
    let q = in_repeat count r.place in
    let h = r.fits in
    record {
      place = q;
      in_range = AllByRecursion-left IsInRange (placed q body) (placed r.place next) r.in_range.1;
      fits = record { fields = h.fields; kind = h.kind; keys = h.keys; lists = h.lists };
    }
CanStart-ready (going_through name list body) next s r =
    record {
      place = r.place;
      next_name = next_name-over r.place name list r.in_range.0;
      in_range = AllByRecursion-left IsInRange (placed (in_each r.place) body) (placed r.place next) r.in_range.1;
      fits = r.fits;
    }

-- ---- the statements of a body

exec-onto : (stmt : Statement) (next : Code) (s : Store) → exec (onto stmt next) s ≡ exec next (exec (onto stmt stop) s)
exec-onto (one_line a) next s = refl
exec-onto (choice on body other) next s = refl
exec-onto (turning count body) next s = refl
exec-onto (going_through name list body) next s = refl

-- The rest, from the current store, gives what the whole gives from the first store.
pub record RunsOn (left whole : Code) (now first : Store) : Type 0 where
  pub gives : exec left now ≡ exec whole first
  pub ready : IsReady left now

RunsOn-onto : (stmt : Statement) (next whole : Code) (now then first : Store) → then ≡ exec (onto stmt stop) now → RunsOn (onto stmt next) whole now first → RunsOn next whole then first
RunsOn-onto stmt next whole now then first e h =
    let p = h.ready.place in
    let both = subst (AllByRecursion IsInRange) (placed-onto p stmt next) h.ready.in_range in
    let own = AllByRecursion-left IsInRange (placed p (onto stmt stop)) (placed p next) both in
    record {
      gives = ap (exec next) e ∙ sym (exec-onto stmt next now) ∙ h.gives;
      ready = record {
        place = p;
        in_range = AllByRecursion-right IsInRange (placed p (onto stmt stop)) (placed p next) both;
        fits = subst (FitsStore p) (sym e) (Fits-exec (onto stmt stop) p now own h.ready.fits);
      };
    }

pub CanStart-next : (stmts : List Stmt) (i : ℕ) (stmt : Stmt) (whole : Code) (now first : Store) → i < length stmts → stmt ≡ get_or stmts i stmt
    → RunsOn (code_of (drop i stmts)) whole now first → CanStart (statement_of stmt) now
CanStart-next stmts i stmt whole now first lt e h =
    CanStart-ready (statement_of stmt) (code_of (drop (i + 1) stmts)) now (subst (λ (c : Code). IsReady c now) (code_of-drop stmts i stmt lt e) h.ready)

pub RunsOn-next : (stmts : List Stmt) (i : ℕ) (stmt : Stmt) (whole : Code) (now then first : Store) → i < length stmts → stmt ≡ get_or stmts i stmt
    → then ≡ exec (only stmt) now → RunsOn (code_of (drop i stmts)) whole now first → RunsOn (code_of (drop (i + 1) stmts)) whole then first
RunsOn-next stmts i stmt whole now then first lt e n h =
    RunsOn-onto (statement_of stmt) (code_of (drop (i + 1) stmts)) whole now then first n
    (subst (λ (c : Code). RunsOn c whole now first) (code_of-drop stmts i stmt lt e) h)

-- ---- the turns of a `repeat`

pub record TurnsOn (left whole : ℕ) (body : Code) (now first : Store) : Type 0 where
  pub gives : times left (exec body) now ≡ times whole (exec body) first
  pub ready : IsReady body now

pub TurnsOn-next : (left before whole : ℕ) (body : Code) (now then first : Store) → before ≡ suc left → then ≡ exec body now → TurnsOn before whole body now first → TurnsOn left whole body then first
TurnsOn-next left before whole body now then first e n h = record {
  gives = ap (times left (exec body)) n ∙ subst (λ (k : ℕ). times k (exec body) now ≡ times whole (exec body) first) e h.gives;
  ready = subst (IsReady body) (sym n) (IsReady-exec body now h.ready);
}

-- ---- the records of an `each`

pub record GoesOn (name : ℕ) (left whole : List (List Value)) (body : Code) (now first : Store) : Type 0 where
  pub gives : for_each name left (exec body) now ≡ for_each name whole (exec body) first
  pub ready : IsReadyIn name body now
  pub widths : AreWide now.fields whole

pub GoesOn-next : (name i : ℕ) (rows : List (List Value)) (row : List Value) (body : Code) (now then first : Store) → i < length rows → row ≡ get_or rows i row
    → then ≡ exec body (bind now name row) → GoesOn name (drop i rows) rows body now first → GoesOn name (drop (i + 1) rows) rows body then first
GoesOn-next name i rows row body now then first lt e n h =
    let left = drop_more rows i row lt ∙ ap (λ (r : List Value). r ∷ drop (i + 1) rows) (sym e) in
    record {
      gives = ap (for_each name (drop (i + 1) rows) (exec body)) n ∙ subst (λ (l : List (List Value)). for_each name l (exec body) now ≡ for_each name rows (exec body) first) left h.gives;
      ready = subst (IsReadyIn name body) (sym n) (IsReadyIn-exec name body now row h.ready);
      widths = subst (λ (f : ℕ). AreWide f rows) (sym (ap (λ (s : Store). s.fields) n ∙ fields-exec body (bind now name row) (IsReady-bind name body now row h.ready))) h.widths;
    }
