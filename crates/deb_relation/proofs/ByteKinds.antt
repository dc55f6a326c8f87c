-- Which kinds of bytes exclude each other.
use Rattle.std.proofs.Common.{not, ◌≡◌, ℕ, ◌==◌, Bool, true, false, arith}
use Rattle.std.specs.Prelude.{◌||◌}
use Rattle.std.specs.Char.{is_ascii_alphanumeric, is_ascii_digit}
use Rattle.std.proofs.lemmas.Bool.Decides.{nat_tests}
use Rattle.deb_relation.specs.Bytes.{bar, colon, comma, equals, greater, hyphen, less}
use Rattle.deb_relation.specs.Form.{is_name_byte, is_qualifier_byte, is_white}
use Rattle.deb_relation.specs.Relationship.{is_version_byte}
use Rattle.deb_relation.specs.VersionText.{is_revision_byte, is_upstream_byte}

-- the bytes of operators
abbrev pub is_sign_byte : ℕ → Bool
is_sign_byte b = b == less || b == equals || b == greater

pub alphanumeric-is_name : (b : ℕ) → is_ascii_alphanumeric b ≡ true → is_name_byte b ≡ true
alphanumeric-is_name b h = grind (arith, nat_tests)

pub alphanumeric-not_white : (b : ℕ) → is_ascii_alphanumeric b ≡ true → is_white b ≡ false
alphanumeric-not_white b h = grind (arith, nat_tests)

pub white-not_name : (b : ℕ) → is_white b ≡ true → is_name_byte b ≡ false
white-not_name b h = grind (arith, nat_tests)

pub white-not_qualifier : (b : ℕ) → is_white b ≡ true → is_qualifier_byte b ≡ false
white-not_qualifier b h = grind (arith, nat_tests)

pub white-not_colon : (b : ℕ) → is_white b ≡ true → (b == colon) ≡ false
white-not_colon b h = grind (arith, nat_tests)

pub white-not_sign : (b : ℕ) → is_white b ≡ true → is_sign_byte b ≡ false
white-not_sign b h = grind (arith, nat_tests)

pub white-not_version : (b : ℕ) → is_white b ≡ true → is_version_byte b ≡ false
white-not_version b h = grind (arith, nat_tests)

pub digit-is_upstream : (b : ℕ) → is_ascii_digit b ≡ true → is_upstream_byte b ≡ true
digit-is_upstream b h = grind (arith, nat_tests)

pub colon-is_upstream : (b : ℕ) → (b == colon) ≡ true → is_upstream_byte b ≡ true
colon-is_upstream b h = grind (arith, nat_tests)

pub hyphen-is_upstream : (b : ℕ) → (b == hyphen) ≡ true → is_upstream_byte b ≡ true
hyphen-is_upstream b h = grind (arith, nat_tests)

pub revision-is_upstream : (b : ℕ) → is_revision_byte b ≡ true → is_upstream_byte b ≡ true
revision-is_upstream b h = grind (arith, nat_tests)

pub upstream-is_version : (b : ℕ) → is_upstream_byte b ≡ true → is_version_byte b ≡ true
upstream-is_version b h = grind (arith, nat_tests)

pub upstream-not_white : (b : ℕ) → is_upstream_byte b ≡ true → is_white b ≡ false
upstream-not_white b h = grind (arith, nat_tests)

pub upstream-not_sign : (b : ℕ) → is_upstream_byte b ≡ true → is_sign_byte b ≡ false
upstream-not_sign b h = grind (arith, nat_tests)

pub not_sign-parts : (b : ℕ) → is_sign_byte b ≡ false → ((b == less) ≡ false) × ((b == equals) ≡ false) × ((b == greater) ≡ false)
not_sign-parts b h = (grind (arith, nat_tests), grind (arith, nat_tests), grind (arith, nat_tests))

pub bar-not_white : (b : ℕ) → (b == bar) ≡ true → is_white b ≡ false
bar-not_white b h = grind (arith, nat_tests)

-- a byte that is neither a comma nor a bar
pub parts_nothing : (b : ℕ) → (b == comma || b == bar) ≡ false → ((b == comma) ≡ false) × ((b == bar) ≡ false)
parts_nothing b h = (grind (arith, nat_tests), grind (arith, nat_tests))

-- the bytes that part no relationship
abbrev pub is_inner_byte : ℕ → Bool
is_inner_byte b = not (b == comma || b == bar)

pub inner-not_comma : (b : ℕ) → is_inner_byte b ≡ true → not (b == comma) ≡ true
inner-not_comma b h = grind (arith, nat_tests)

pub inner-not_bar : (b : ℕ) → is_inner_byte b ≡ true → not (b == bar) ≡ true
inner-not_bar b h = grind (arith, nat_tests)

pub name-is_inner : (b : ℕ) → is_name_byte b ≡ true → is_inner_byte b ≡ true
name-is_inner b h = grind (arith, nat_tests)

pub qualifier-is_inner : (b : ℕ) → is_qualifier_byte b ≡ true → is_inner_byte b ≡ true
qualifier-is_inner b h = grind (arith, nat_tests)

pub upstream-is_inner : (b : ℕ) → is_upstream_byte b ≡ true → is_inner_byte b ≡ true
upstream-is_inner b h = grind (arith, nat_tests)
