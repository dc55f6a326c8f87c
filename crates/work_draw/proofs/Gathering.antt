-- The pieces of two workers, together.
use Rattle.std.proofs.Common.{◌≡◌, ℕ, ◌+◌, ◌-◌, ◌<◌, Bool, true, false, List, [], ◌++◌, ◌∙◌, ap, ap₂, sym, subst, arith}
use Rattle.std.proofs.lemmas.List.Elements.{All-append}
use mathlib.Core.List.{map-append}
use Rattle.work_draw.specs.declared.pieces.Drawn.{Drawn}
use Rattle.work_draw.specs.declared.pieces.Piece.{Piece}
use Rattle.work_draw.specs.Board.{BoardView, DrawerView, both_drawers, new_drawer}
use Rattle.work_draw.specs.Drawing.{times, HoldsEachOnce}
use Rattle.work_draw.specs.Checks.{numbers_of, Find, Gains, GainsInAll, IsLeftBy, IsReady, after_crew}
use Rattle.work_draw.proofs.Counts.{times-append}

-- what a first drawer gained is all that it holds
pub gained_all : {T : Type 0} (total : ℕ) (before after : List ℕ) (pieces : List (Piece T)) → before ≡ [] → GainsInAll before pieces after → HoldsEachOnce total after → HoldsEachOnce total (numbers_of pieces)
gained_all total before after pieces empty gained once n =
    let g = gained n in
    let none : times n before ≡ 0 = ap (times n) empty in
    let o = once n in
    omega arith

-- a drawer that began with nothing is joined into another
gains_joined : {T : Type 0} (before : List ℕ) (p q : List (Piece T)) (m n : List ℕ) → GainsInAll before p m → GainsInAll [] q n → GainsInAll before (p ++ q) (m ++ n)
gains_joined before p q m n h k x =
    let a = h x in
    let b = k x in
    omega (arith, times-append x m n, ap (times x) (map-append (λ y. y.number) p q), times-append x (numbers_of p) (numbers_of q))

-- what a crew has done to a drawer but for what it drew: so many drawers were split off, and joined again
abbrev with_crew : DrawerView → List ℕ → ℕ → ℕ → ℕ → DrawerView
with_crew d numbers past spare held = record d { numbers = numbers; past = past; spare = spare; held = held; done = true }

drawers_joined : (before mine theirs first second : DrawerView) (board : BoardView) (workers half rest : ℕ) → half + rest ≡ workers
    → mine ≡ record before { spare = before.spare - 1 - (half - 1) } → theirs ≡ new_drawer board (half - 1) before.done → 0 < half → 0 < rest
    → first ≡ after_crew mine rest first.past first.numbers → second ≡ after_crew theirs half second.past second.numbers
    → both_drawers first second ≡ after_crew before workers (first.past + second.past) (first.numbers ++ second.numbers)
drawers_joined before mine theirs first second board workers half rest all kept given some others done_first done_second =
    ap₂ both_drawers done_first done_second
    ∙ (ap₂ (λ (a b : DrawerView). both_drawers (after_crew a rest first.past first.numbers) (after_crew b half second.past second.numbers)) kept given
    ∙ ap₂ (λ (spare held : ℕ). with_crew before (first.numbers ++ second.numbers) (first.past + second.past) spare held) (omega arith) (omega arith))

-- each half of the workers can begin with its part of a drawer with which all of them can
module _ (total : ℕ) (board : BoardView) (before : DrawerView) (workers half rest : ℕ) (all : half + rest ≡ workers) (some : 0 < half) (others : 0 < rest)
    (ready : IsReady total board before workers) where
  pub theirs_ready : (theirs : DrawerView) → theirs ≡ new_drawer board (half - 1) before.done → IsReady total board theirs half
  theirs_ready theirs given =
      let spare : theirs.spare ≡ half - 1 = ap (λ (d : DrawerView). d.spare) given in
      (ap (λ (d : DrawerView). d.board) given, ready.1, some, omega arith)

  pub mine_ready : (mine : DrawerView) → mine ≡ record before { spare = before.spare - 1 - (half - 1) } → IsReady total board mine rest
  mine_ready mine kept =
      let spare : mine.spare ≡ before.spare - 1 - (half - 1) = ap (λ (d : DrawerView). d.spare) kept in
      let room = ready.3 in
      (ap (λ (d : DrawerView). d.board) kept ∙ ready.0, ready.1, others, omega arith)

module _ {V : Type 0} (IsSo : ℕ → V → Type 0) (before : DrawerView) where
  -- what a worker leaves is what a crew of one does
  pub left_by_one : (drawn : Drawn V) → drawn.drawer ≡ record before { numbers = drawn.drawer.numbers; past = drawn.drawer.past; done = drawn.drawer.done }
      → (drawn.refused ≡ false → (drawn.drawer.done ≡ true) × Gains before.numbers drawn.pieces.items drawn.drawer.numbers) → Find IsSo drawn.pieces.items
      → IsLeftBy IsSo before 1 drawn
  left_by_one drawn same gained found = record {
    same_board = ap (λ (d : DrawerView). d.board) same;
    done = λ fine.
        same
        ∙ (ap (λ (b : Bool). record before { numbers = drawn.drawer.numbers; past = drawn.drawer.past; done = b }) (gained fine).0
        ∙ ap₂ (λ (spare held : ℕ). with_crew before drawn.drawer.numbers drawn.drawer.past spare held) (omega arith) (omega arith));
    gained = λ fine n. ap (times n) (gained fine).1 ∙ times-append n before.numbers (numbers_of drawn.pieces.items);
    found = λ fine. found;
  }

  -- what two crews leave, of which the second began with a new drawer, is what a crew of all does
  pub left_by_both : (mine theirs : DrawerView) (board : BoardView) (workers half rest : ℕ) → half + rest ≡ workers → mine ≡ record before { spare = before.spare - 1 - (half - 1) }
      → theirs ≡ new_drawer board (half - 1) before.done → 0 < half → 0 < rest → (first second both : Drawn V) → IsLeftBy IsSo mine rest first
      → IsLeftBy IsSo theirs half second → both.drawer ≡ both_drawers first.drawer second.drawer
      → (both.refused ≡ false → (first.refused ≡ false) × (second.refused ≡ false))
      → (both.refused ≡ false → both.pieces.items ≡ first.pieces.items ++ second.pieces.items) → IsLeftBy IsSo before workers both
  left_by_both mine theirs board workers half rest all kept given some others first second both one two drawer fine pieces = record {
    same_board = ap (λ (d : DrawerView). d.board) drawer ∙ (one.same_board ∙ ap (λ (d : DrawerView). d.board) kept);
    done = λ r.
        drawer
        ∙ (drawers_joined before mine theirs first.drawer second.drawer board workers half rest all kept given some others (one.done (fine r).0) (two.done (fine r).1)
        ∙ ap₂ (λ (past : ℕ) (numbers : List ℕ). after_crew before workers past numbers) (sym (ap (λ (d : DrawerView). d.past) drawer))
        (sym (ap (λ (d : DrawerView). d.numbers) drawer)));
    gained = λ r.
        let begun = subst (λ (b : List ℕ). GainsInAll b first.pieces.items first.drawer.numbers) (ap (λ (d : DrawerView). d.numbers) kept) (one.gained (fine r).0) in
        let new = subst (λ (b : List ℕ). GainsInAll b second.pieces.items second.drawer.numbers) (ap (λ (d : DrawerView). d.numbers) given) (two.gained (fine r).1) in
        let joined = gains_joined before.numbers first.pieces.items second.pieces.items first.drawer.numbers second.drawer.numbers begun new in
        subst (λ (n : List ℕ). GainsInAll before.numbers both.pieces.items n) (sym (ap (λ (d : DrawerView). d.numbers) drawer))
        (subst (λ (p : List (Piece V)). GainsInAll before.numbers p (first.drawer.numbers ++ second.drawer.numbers)) (sym (pieces r)) joined);
    found = λ r.
        subst (λ (p : List (Piece V)). Find IsSo p) (sym (pieces r))
        (All-append (λ (p : Piece V). IsSo p.number p.verdicts) first.pieces.items second.pieces.items (one.found (fine r).0) (two.found (fine r).1));
  }
