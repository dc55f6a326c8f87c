-- The bytes that have a meaning of their own in versions and relationships, runs of bytes, and the parts of a text between separators.
use Rattle.std.specs.Prelude.{ℕ, ◌==◌, Bool, true, false, List, [], ◌∷◌, if◌then◌else◌, Option, Some, None}
use Rattle.std.specs.Char.{is_ascii_digit}
use Rattle.std.specs.List.{list_any, slice_split}

abbrev pub tab : ℕ
tab = 9

abbrev pub line_feed : ℕ
line_feed = 10

abbrev pub space : ℕ
space = 32

abbrev pub open_parenthesis : ℕ
open_parenthesis = 40

abbrev pub close_parenthesis : ℕ
close_parenthesis = 41

abbrev pub plus : ℕ
plus = 43

abbrev pub comma : ℕ
comma = 44

abbrev pub hyphen : ℕ
hyphen = 45

abbrev pub full_stop : ℕ
full_stop = 46

abbrev pub digit_zero : ℕ
digit_zero = 48

abbrev pub colon : ℕ
colon = 58

abbrev pub less : ℕ
less = 60

abbrev pub equals : ℕ
equals = 61

abbrev pub greater : ℕ
greater = 62

abbrev pub underscore : ℕ
underscore = 95

abbrev pub bar : ℕ
bar = 124

abbrev pub tilde : ℕ
tilde = 126

-- the bytes at the front that pass
unfoldable pub run : (ℕ → Bool) → List ℕ → List ℕ
run p [] = []
run p (b ∷ bs) = if p b then b ∷ run p bs else []

-- what comes after them
unfoldable pub after_run : (ℕ → Bool) → List ℕ → List ℕ
after_run p [] = []
after_run p (b ∷ bs) = if p b then after_run p bs else b ∷ bs

-- whether a text begins with a byte that passes
abbrev pub begins : (ℕ → Bool) → List ℕ → Bool
begins p [] = false
begins p (b ∷ bs) = p b

-- whether a run of non-digits ends at the front of a text: a digit stands there, or nothing
abbrev pub is_at_end : List ℕ → Bool
is_at_end [] = true
is_at_end (b ∷ bs) = is_ascii_digit b

-- a text without the zeros that lead it
unfoldable pub without_zeros : List ℕ → List ℕ
without_zeros [] = []
without_zeros (b ∷ bs) = if b == digit_zero then without_zeros bs else b ∷ bs

-- the parts that are left
abbrev pub parts_of : ℕ → Option (List ℕ) → List (List ℕ)
parts_of separator None = []
parts_of separator (Some text) = slice_split (λ b. b == separator) text

-- whether a text has a byte
abbrev pub has_byte : ℕ → List ℕ → Bool
has_byte byte text = list_any (λ b. b == byte) text
