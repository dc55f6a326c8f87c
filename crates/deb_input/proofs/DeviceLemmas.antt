-- Lemmas on bytes that are read.
use Rattle.std.proofs.Common.{◌≡◌, ℕ, ◌+◌, ◌<◌, ◌≤◌, List, [], ◌++◌, length, refl, ap, sym, ◌∙◌, append_assoc, append-nil, arith, length-append, IfSome, take, subst, ◌-◌}
use borrow.Rule.Slice.PartMut.{put_mid}
use Rattle.std.proofs.Math.Seq.{take-append-add, take-take}
use Rattle.std.proofs.lemmas.List.{take-append-le, length-take-le}
use Rattle.std.specs.Prelude.{Option, Some, None}
use Rattle.std.specs.Io.KnownBytes.{Consumes}
use Rattle.deb_input.specs.Pieces.{HoldsMore}

pub consumes_nothing : (a : Option (List ℕ)) → Consumes a a []
consumes_nothing None = tt
consumes_nothing (Some xs) = refl

pub consumes_more : (a b c : Option (List ℕ)) (front part : List ℕ) → Consumes a b front → Consumes b c part → Consumes a c (front ++ part)
consumes_more None b c front part h k = tt
consumes_more (Some xs) None c front part h k = absurd h
consumes_more (Some xs) (Some ys) None front part h k = absurd k
consumes_more (Some xs) (Some ys) (Some zs) front part h k = h ∙ ap (λ rest. front ++ rest) k ∙ sym (append_assoc front part zs)

-- more was taken than the limit, so more was there
pub consumes_over : (a b : Option (List ℕ)) (front : List ℕ) (limit : ℕ) → Consumes a b front → limit < length front → IfSome a (λ bytes. limit < length bytes)
consumes_over None b front limit h over = tt
consumes_over (Some xs) None front limit h over = absurd h
consumes_over (Some xs) (Some ys) front limit h over =
    let whole : length xs ≡ length front + length ys = ap length h ∙ length-append front ys in
    omega arith

-- a room with so many bytes more behind those of its front
filled_more : (room part : List ℕ) (filled size n : ℕ) → filled ≤ length room → n ≤ length part → take (filled + n) (put_mid filled size room part) ≡ take filled room ++ take n part
filled_more room part filled size n fits held =
    let whole = put_mid filled size room part in
    ap (λ count. take (count + n) whole) (sym (length-take-le filled room fits))
    ∙ take-append-add (take filled room) _ n
    ∙ ap (λ bytes. take filled room ++ bytes) (take-append-le n part _ held)

-- the same, where the room was made wider before
pub held_more : (narrow room part held : List ℕ) (filled size n : ℕ) → take (length narrow) room ≡ narrow → take filled narrow ≡ held → filled ≤ length narrow → filled ≤ length room → n ≤ length part
    → take (filled + n) (put_mid filled size room part) ≡ held ++ take n part
held_more narrow room part held filled size n kept is within fits more =
    let front : take filled room ≡ held = sym (take-take filled (length narrow) room within) ∙ ap (take filled) kept ∙ is in
    filled_more room part filled size n fits more ∙ ap (λ bytes. bytes ++ take n part) front

-- what is held then
pub held_count : (held next part : List ℕ) (n : ℕ) → next ≡ held ++ take n part → n ≤ length part → length next ≡ length held + n
held_count held next part n is fits =
    let taken : length (take n part) ≡ n = length-take-le n part fits in
    let whole : length next ≡ length held + length (take n part) = ap length is ∙ length-append held (take n part) in
    omega arith

-- more is held, and more behind that
pub holds_on : (old mid new : Option (List ℕ)) (held more most : List ℕ) → HoldsMore held more old mid → HoldsMore more most mid new → HoldsMore held most old new
holds_on old mid new held more most h k = (h.0 ++ k.0, consumes_more old mid new h.0 k.0 h.1 k.1, k.2 ∙ ap (λ bytes. bytes ++ k.0) h.2 ∙ append_assoc held h.0 k.0)

-- all that was read is held
pub consumes_held : (old mid new : Option (List ℕ)) (held next : List ℕ) → Consumes old mid held → HoldsMore held next mid new → Consumes old new next
consumes_held old mid new held next h k =
    let P : List ℕ → Type 0 = λ bytes. Consumes old new bytes in
    subst P (sym k.2) (consumes_more old mid new held k.0 h k.1)

-- what is read behind nothing that is held adds to what was read
pub skips : (old mid new : Option (List ℕ)) (held next bytes : List ℕ) → Consumes old mid bytes → held ≡ [] → HoldsMore held next mid new
    → (all : List ℕ) × Consumes old new all × (length all ≡ length bytes + length next)
skips old mid new held next bytes h none k =
    let same : next ≡ k.0 = k.2 ∙ ap (λ front. front ++ k.0) none in
    (bytes ++ k.0, consumes_more old mid new bytes k.0 h k.1, length-append bytes k.0 ∙ ap (λ part. length bytes + length part) (sym same))
