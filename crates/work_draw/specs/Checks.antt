-- Asked places, the chunks into which they are cut, and what a worker makes of those that it draws.
use Rattle.std.specs.Prelude.{ℕ, ◌*◌, List, [], ◌∷◌, length, take, drop, ◌≡◌, ◌+◌, ◌-◌, ◌<◌, ◌≤◌, true, false, All, Vec, map, flat_map, IsPermutation, ◌++◌}
use Rattle.std.specs.Int.{div_ceil}
use Rattle.deb_index.specs.Packages.{IndexView}
use Rattle.deb_health.specs.Verdicts.{IsVerdict, SpeaksOf, verdict_view}
use Rattle.deb_health.specs.declared.answer.Verdict.{Verdict}
use Rattle.std.specs.declared.alloc.Global.{Global}
use Rattle.std.specs.List.{range_with_len}
use Rattle.work_draw.specs.declared.pieces.Drawn.{Drawn}
use Rattle.work_draw.specs.declared.pieces.Piece.{Piece}
use Rattle.work_draw.specs.Board.{BoardView, DrawerView}
use Rattle.work_draw.specs.Drawing.{times}

-- one answer to each question, in the same order
abbrev pub AnswersEach : {A B : Type 0} → (A → B → Type 0) → List A → List B → Type 0
AnswersEach R [] [] = Unit {0}
AnswersEach R [] (b ∷ bs) = ⊥
AnswersEach R (a ∷ as_left) [] = ⊥
AnswersEach R (a ∷ as_left) (b ∷ bs) = R a b × AnswersEach R as_left bs

-- chunk number n: the asked places from n * size on, at most size of them
abbrev pub chunk_of : {A : Type 0} → List A → ℕ → ℕ → List A
chunk_of asked size n = take size (drop (n * size) asked)

-- how many chunks there are
abbrev pub chunk_count : {A : Type 0} → List A → ℕ → ℕ
chunk_count asked size = div_ceil (length asked) size

-- what is found of a place is its verdict, and speaks of what the index has
abbrev pub IsFound : IndexView → ℕ → Verdict → Type 0
IsFound index place found = IsVerdict index place (verdict_view found) × SpeaksOf index (verdict_view found)

abbrev pub numbers_of : {V : Type 0} → List (Piece V) → List ℕ
numbers_of pieces = map (λ p. p.number) pieces

-- each piece has what may be found of its number
abbrev pub Find : {V : Type 0} → (ℕ → V → Type 0) → List (Piece V) → Type 0
Find IsSo pieces = All (λ p. IsSo p.number p.verdicts) pieces

-- each piece has the verdicts of its chunk
abbrev pub AreFound : IndexView → List ℕ → ℕ → List (Piece (Vec Verdict Global)) → Type 0
AreFound index asked size pieces = Find (λ number found. AnswersEach (IsFound index) (chunk_of asked size number) found.items) pieces

-- the numbers of the pieces are, in order, those that the drawer gained
abbrev pub Gains : {V : Type 0} → List ℕ → List (Piece V) → List ℕ → Type 0
Gains before pieces after = after ≡ before ++ numbers_of pieces

-- the same, but the last number that was gained may lack its piece
abbrev pub GainsButLast : {V : Type 0} → List ℕ → List (Piece V) → List ℕ → Type 0
GainsButLast before pieces after = (rest : List ℕ) × (length rest ≤ 1) × (after ≡ (before ++ numbers_of pieces) ++ rest)

-- the pieces are those of the numbers that the drawer gained, each once, in any order
abbrev pub GainsInAll : {V : Type 0} → List ℕ → List (Piece V) → List ℕ → Type 0
GainsInAll before pieces after = (n : ℕ) → times n after ≡ times n before + times n (numbers_of pieces)

-- the verdicts of the pieces numbered 0, 1, 2 and so on below the total, one piece after another
abbrev pub InOrderOfNumber : {T : Type 0} → ℕ → List (Piece (Vec T Global)) → List T → Type 0
InOrderOfNumber total pieces verdicts =
    (ordered : List (Piece _)) × IsPermutation pieces ordered × (numbers_of ordered ≡ range_with_len 0 total)
    × (verdicts ≡ flat_map (λ p. p.verdicts.items) ordered)

-- a drawer in which so many workers' drawers were joined, when they were done
abbrev pub after_crew : DrawerView → ℕ → ℕ → List ℕ → DrawerView
after_crew d workers past numbers = record d { numbers = numbers; past = past; spare = d.spare - (workers - 1); held = d.held + (workers - 1); done = true }

-- so many workers can begin with this drawer, on a board of so many numbers
abbrev pub IsReady : ℕ → BoardView → DrawerView → ℕ → Type 0
IsReady total board drawer workers = (drawer.board ≡ board) × (board.total ≡ total) × (0 < workers) × (workers ≤ drawer.spare + 1)

-- What so many workers leave who began with a drawer. Unless memory was refused they are done, and have a piece for each number that was gained.
pub record IsLeftBy {V : Type 0} (IsSo : ℕ → V → Type 0) (before : DrawerView) (workers : ℕ) (drawn : Drawn V) : Type 0 where
  pub same_board : drawn.drawer.board ≡ before.board
  pub done : drawn.refused ≡ false → drawn.drawer ≡ after_crew before workers drawn.drawer.past drawn.drawer.numbers
  pub gained : drawn.refused ≡ false → GainsInAll before.numbers drawn.pieces.items drawn.drawer.numbers
  pub found : drawn.refused ≡ false → Find IsSo drawn.pieces.items
