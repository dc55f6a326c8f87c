-- An index has room for the packages of a text and of a background: together they ask for little more than the texts have bytes.
use Rattle.std.proofs.Common.{◌≡◌, ◌<◌, ◌≤◌, ◌+◌, ◌*◌, ℕ, Bool, List, [], ◌∷◌, length, Option, Some, None, refl, ap, ◌∙◌, arith}
use Rattle.std.specs.List.{list_any, sum_by}
use Rattle.std.proofs.lemmas.List.Sums.{sum_by-append, sum_by-cons}
use Rattle.deb_control.specs.Stanzas.{Unread, size_of, stanzas_of}
use Rattle.deb_control.proofs.SizeLemmas.{stanza-sizes}
use Rattle.deb_index.specs.Packages.{IndexView, PackageView, first_of_each}
use Rattle.deb_index.specs.Reading.{Steps, byte_limit, collected, same_package, stanza_limit, with_reading}
use Rattle.deb_index.specs.Built.{HasRoomFor}
use Rattle.deb_index.specs.Tables.{HasRoom, asked_count}
use Rattle.deb_index.proofs.SizeLemmas.{stanza-few, stanza-fits}

abbrev asked : IndexView → ℕ
asked index = sum_by asked_count index.packages

-- so many stanzas were read in all, and there is room for those that are left
pub record IsRoomy (before : ℕ) (index : IndexView) (left : Unread) : Type 0 where
  pub counts : index.stanzas ≡ before + left.count
  pub room : HasRoomFor index left.stanzas

left-sizes : (arch : List ℕ) (before : ℕ) (left new : Unread) (read : Option PackageView) (step : Steps arch before left read new) → sum_by size_of left.stanzas ≡ size_of step.stanza + sum_by size_of new.stanzas
left-sizes arch before left new read step = ap (sum_by size_of) step.first ∙ sum_by-cons size_of step.stanza new.stanzas

asked-more : (t : Bool) (index : IndexView) (p : PackageView) → list_any (λ q. same_package q p) index.packages ≡ t → asked (with_reading index (Some p)) ≤ asked index + asked_count p
asked-more t index p e = grind (arith, e, sum_by-append asked_count index.packages (p ∷ []), sum_by-cons asked_count p [])

stanzas-more : (t : Bool) (index : IndexView) (p : PackageView) → list_any (λ q. same_package q p) index.packages ≡ t → (with_reading index (Some p)).stanzas ≡ index.stanzas + 1
stanzas-more t index p e = grind (arith, e)

pub arch-kept : (index : IndexView) (read : Option PackageView) → (with_reading index read).arch ≡ index.arch
arch-kept index None = refl
arch-kept index (Some p) = grind arith

module _ (arch : List ℕ) (before : ℕ) (index : IndexView) (left new : Unread) where
  -- a stanza that is read is none too many
  pub read-few : (read : Option PackageView) → IsRoomy before index left → Steps arch before left read new → index.stanzas < stanza_limit
  read-few read roomy step = omega (arith, roomy.counts, step.counts, stanza-few arch before new.count step.stanza read step.reads)

  pub read-room : (read : Option PackageView) → IsRoomy before index left → Steps arch before left read new → HasRoom index read
  read-room None roomy step = tt
  read-room (Some p) roomy step =
      let fits = stanza-fits arch before new.count step.stanza p step.reads in
      let few = read-few (Some p) roomy step in
      let sizes = left-sizes arch before left new (Some p) step in
      (omega (arith, roomy.room, fits.1, few, sizes), omega (arith, roomy.room, fits.0, few, sizes))

  pub stays-roomy : (read : Option PackageView) → IsRoomy before index left → Steps arch before left read new → IsRoomy before (with_reading index read) new
  stays-roomy None roomy step =
      let sizes = left-sizes arch before left new None step in
      record { counts = omega (arith, roomy.counts, step.counts); room = omega (arith, roomy.room, sizes) }
  stays-roomy (Some p) roomy step =
      let fits = stanza-fits arch before new.count step.stanza p step.reads in
      let sizes = left-sizes arch before left new (Some p) step in
      let more = asked-more _ index p refl in
      let stanzas = stanzas-more _ index p refl in
      record { counts = omega (arith, roomy.counts, step.counts, stanzas); room = omega (arith, roomy.room, fits.0, sizes, more, stanzas) }

  pub stays-few : (read : Option PackageView) → IsRoomy before index left → Steps arch before left read new → (with_reading index read).stanzas ≤ stanza_limit
  stays-few read roomy step = omega (arith, (stays-roomy read roomy step).counts, stanza-few arch before new.count step.stanza read step.reads)

  -- and it asks for no more than it has bytes, and three
  pub step-asks : (read : Option PackageView) → Steps arch before left read new
      → asked (with_reading index read) + 3 * index.stanzas + sum_by size_of new.stanzas ≤ asked index + sum_by size_of left.stanzas + 3 * (with_reading index read).stanzas
  step-asks None step = omega (arith, left-sizes arch before left new None step)
  step-asks (Some p) step =
      let fits = stanza-fits arch before new.count step.stanza p step.reads in
      omega (arith, left-sizes arch before left new (Some p) step, fits.0, asked-more _ index p refl, stanzas-more _ index p refl)

pub counts-more : (index : IndexView) (read : Option PackageView) → (with_reading index read).stanzas ≡ index.stanzas + 1
counts-more index None = refl
counts-more index (Some p) = stanzas-more _ index p refl

-- a text asks for little more than it has bytes
pub text-room : (index : IndexView) (text : List ℕ) → length text ≤ byte_limit → asked index ≤ byte_limit + 1 + 4 * index.stanzas → HasRoomFor index (stanzas_of text)
text-room index text short room = omega (arith, stanza-sizes text, short, room)

fresh : (arch : List ℕ) (with_essential : Bool) → asked (collected arch with_essential []) ≡ 0
unfolding collected first_of_each
fresh arch with_essential = refl

pub fresh-room : (arch : List ℕ) (with_essential : Bool) (index : IndexView) → index ≡ collected arch with_essential [] → asked index ≤ byte_limit + 1 + 4 * index.stanzas
fresh-room arch with_essential index is = omega (arith, ap asked is, fresh arch with_essential)

-- after the first text there is room for a second one
pub fore-room : (arch : List ℕ) (with_essential : Bool) (text : List ℕ) (old new : IndexView) → length text ≤ byte_limit → old ≡ collected arch with_essential []
    → asked new + 3 * old.stanzas ≤ asked old + sum_by size_of (stanzas_of text) + 3 * new.stanzas → asked new ≤ byte_limit + 1 + 4 * new.stanzas
fore-room arch with_essential text old new short is room = omega (arith, ap asked is, fresh arch with_essential, stanza-sizes text, short, room)
