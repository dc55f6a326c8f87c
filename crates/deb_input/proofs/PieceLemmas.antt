-- Lemmas on a text that is read piece by piece.
use Rattle.std.proofs.Common.{◌≡◌, ◌≢◌, ◌∙◌, ℕ, ◌+◌, ◌<◌, ◌≤◌, Bool, List, [], ◌++◌, Option, Some, None, Result, Ok, Err, IfSome, ap, append-nil, append_assoc, arith, drop, inl, inr, length, length-append, refl, subst, sym}
use Rattle.std.proofs.lemmas.List.{drop_at}
use Rattle.std.specs.Io.KnownBytes.{Consumes, IsAtEnd}
use Rattle.deb_control.specs.Stanzas.{IsClosed, runs, stanzas_of}
use Rattle.deb_control.proofs.LineLemmas.{content_lines-nil}
use Rattle.deb_control.proofs.RunLemmas.{runs-nil, stanzas_of-is}
use Rattle.deb_index.specs.declared.error.IndexError.{IndexError}
use Rattle.deb_index.specs.declared.error.IndexError.TheVariants as index_error
use Rattle.deb_index.specs.Reading.{byte_limit, index_of}
use Rattle.run_settings.specs.Settings.{Settings}
use Rattle.deb_input.specs.declared.fault.RunFault.{RunFault}
use Rattle.deb_input.specs.declared.fault.RunFault.TheVariants.{Read, TooLong, BackgroundRead, BackgroundTooLong, EarlierRead, EarlierTooLong, NamesRead, NamesTooLong, BadNameLine, Index, Background, Earlier, UnknownAsked, Slipped, Memory, Write}
use Rattle.deb_index.specs.Built.{Accepts, FrontView, IsFrontOf, Refuses}
use Rattle.deb_input.specs.Pieces.{FailsToFinish, IsClosedFront, ReadsAll, ReadsFront, ReadsText, RefusesPiece, TakesLast, TakesPiece}
use Rattle.deb_input.specs.Inputs.{FailsAtRead, FailsToRead, ReadsOneOver}
use Rattle.deb_input.proofs.DeviceLemmas.{consumes_more, consumes_nothing}
use Rattle.deb_input.proofs.IndexLemmas.{fore-fails}

-- ---- texts on whose end no stanza goes on

closed-none : IsClosed []
closed-none more = ap (λ (ss : List (List (List ℕ))). ss ++ stanzas_of more) (sym (stanzas_of-is [] ∙ ap runs content_lines-nil ∙ runs-nil))

closed-both : (front piece : List ℕ) → IsClosed front → IsClosed piece → IsClosed (front ++ piece)
closed-both front piece ends piece_ends more =
    ap stanzas_of (append_assoc front piece more)
    ∙ ends (piece ++ more)
    ∙ ap (λ (ss : List (List (List ℕ))). stanzas_of front ++ ss) (piece_ends more)
    ∙ sym (append_assoc (stanzas_of front) (stanzas_of piece) (stanzas_of more))
    ∙ ap (λ (ss : List (List (List ℕ))). ss ++ stanzas_of more) (sym (ends piece))

-- ---- a piece

pub front-within : (held piece left : List ℕ) → held ≡ piece ++ left → length piece ≤ length held
front-within held piece left whole =
    let parts : length held ≡ length piece + length left = ap length whole ∙ length-append piece left in
    omega arith

pub takes-piece : (settings : Settings) (front : FrontView) (held piece left : List ℕ) (taken : ℕ) (next : FrontView) → held ≡ piece ++ left → taken ≡ length piece → IsClosed piece → Accepts front piece next
    → TakesPiece settings front held next (drop taken held)
takes-piece settings front held piece left taken next whole size ends accepts text is =
    let rest : drop taken held ≡ left = ap (λ (bytes : List ℕ). drop taken bytes) whole ∙ drop_at piece left taken (sym size) in (
      piece,
      whole ∙ ap (λ (bytes : List ℕ). piece ++ bytes) (sym rest),
      record { closed = closed-both text piece is.closed ends; is_front = accepts settings.arch settings.essential text is.closed is.is_front },
    )

-- no piece at all
pub takes-none : (settings : Settings) (front : FrontView) (held : List ℕ) → TakesPiece settings front held front held
takes-none settings front held text is =
    let P : List ℕ → Type 0 = λ all. IsClosedFront settings all front in
    ([], refl, subst P (sym (append-nil text)) is)

pub refuses-piece : (settings : Settings) (front : FrontView) (held piece left : List ℕ) (fault : IndexError) → held ≡ piece ++ left → IsClosed piece → Refuses front piece fault → RefusesPiece settings front held fault
refuses-piece settings front held piece left fault whole ends refuses meant text more is =
    let P : List ℕ → Type 0 = λ all. index_of all settings.arch settings.essential ≡ Err fault in
    let same : text ++ piece ++ (left ++ more) ≡ text ++ held ++ more =
    sym (append_assoc (text ++ piece) left more)
    ∙ ap (λ (bytes : List ℕ). bytes ++ more) (append_assoc text piece left)
    ∙ ap (λ (bytes : List ℕ). text ++ bytes ++ more) (sym whole) in
    subst P same (refuses meant settings.arch settings.essential text (left ++ more) is.closed is.is_front (inl (closed-both text piece is.closed ends)))

-- what is held last
pub takes-last : (settings : Settings) (front : FrontView) (held : List ℕ) (whole : FrontView) → Accepts front held whole → TakesLast settings front held (Ok whole)
takes-last settings front held whole accepts text is = accepts settings.arch settings.essential text is.closed is.is_front

pub refuses-last : (settings : Settings) (front : FrontView) (held : List ℕ) (fault : IndexError) → Refuses front held fault → fault ≢ index_error.Memory → TakesLast settings front held (Err fault)
refuses-last settings front held fault refuses meant text is =
    let P : List ℕ → Type 0 = λ all. index_of all settings.arch settings.essential ≡ Err fault in
    (meant, subst P (append-nil (text ++ held)) (refuses meant settings.arch settings.essential text [] is.closed is.is_front (inr refl)))

-- ---- what was read so far

pub reads-none : (settings : Settings) (left : Option (List ℕ)) (front : FrontView) (held : List ℕ) → held ≡ [] → IsFrontOf settings.arch settings.essential [] front
    → ReadsFront settings left left front held × (front.size + length held ≡ 0)
reads-none settings left front held none is =
    let P : List ℕ → Type 0 = λ bytes. Consumes left left bytes × (front.size + length bytes ≡ 0) in
    let size : front.size ≡ 0 = is.sized in
    let both : P held = subst P (sym none) (consumes_nothing left, omega arith) in
    (record { text = []; consumes = both.0; is_front = record { closed = closed-none; is_front = is } }, both.1)

pub reads-on : (settings : Settings) (old mid new : Option (List ℕ)) (front : FrontView) (held bytes more : List ℕ) → ReadsFront settings old mid front held → Consumes mid new bytes → more ≡ held ++ bytes
    → ReadsFront settings old new front more
reads-on settings old mid new front held bytes more reads consumes grown =
    let P : List ℕ → Type 0 = λ all. Consumes old new all in
    record {
      text = reads.text;
      consumes = subst P (append_assoc reads.text held bytes ∙ ap (λ (all : List ℕ). reads.text ++ all) (sym grown))
          (consumes_more old mid new (reads.text ++ held) bytes reads.consumes consumes);
      is_front = reads.is_front;
    }

pub reads-taken : (settings : Settings) (old new : Option (List ℕ)) (front next : FrontView) (held left : List ℕ) → ReadsFront settings old new front held → TakesPiece settings front held next left
    → ReadsFront settings old new next left × (next.size + length left ≡ front.size + length held)
reads-taken settings old new front next held left reads takes =
    let t = takes reads.text reads.is_front in
    let P : List ℕ → Type 0 = λ all. Consumes old new all in
    let size : next.size ≡ length reads.text + length t.0 = t.2.is_front.sized ∙ length-append reads.text t.0 in
    let was : front.size ≡ length reads.text = reads.is_front.is_front.sized in
    let parts : length held ≡ length t.0 + length left = ap length t.1 ∙ length-append t.0 left in (
      record {
        text = reads.text ++ t.0;
        consumes = subst P (ap (λ (all : List ℕ). reads.text ++ all) t.1 ∙ sym (append_assoc reads.text t.0 left)) reads.consumes;
        is_front = t.2;
      },
      omega arith,
    )

-- so many bytes were read
size-read : (settings : Settings) (old new : Option (List ℕ)) (front : FrontView) (held : List ℕ) (reads : ReadsFront settings old new front held) → length (reads.text ++ held) ≡ front.size + length held
size-read settings old new front held reads =
    length-append reads.text held ∙ ap (λ n. n + length held) (sym reads.is_front.is_front.sized)

reads-whole : (settings : Settings) (old new : Option (List ℕ)) (before failed : Bool) (front : FrontView) (held : List ℕ) (reads : ReadsFront settings old new front held) → IsAtEnd new → failed ≡ before
    → front.size + length held ≤ byte_limit → ReadsAll old new before failed (reads.text ++ held)
reads-whole settings old new before failed front held reads ends kept within =
    let size = size-read settings old new front held reads in
    record { consumes = reads.consumes; ends = ends; unfailed = kept; within = omega arith }

-- ---- the whole text

pub reads-last : (settings : Settings) (old new : Option (List ℕ)) (before failed : Bool) (front : FrontView) (held : List ℕ) (outcome : Result FrontView IndexError) → ReadsFront settings old new front held → IsAtEnd new
    → failed ≡ before → front.size + length held ≤ byte_limit → TakesLast settings front held outcome → ReadsText settings old new before failed outcome
reads-last settings old new before failed front held outcome reads ends kept within takes =
    (reads.text ++ held, reads-whole settings old new before failed front held reads ends kept within, takes reads.text reads.is_front)

pub fault-finishes : (settings : Settings) (fault : IndexError) (more : List ℕ) → FailsToFinish settings (Err fault) more (Index fault)
fault-finishes settings fault more text comes = (comes.0, fore-fails text more settings.arch settings.essential fault comes.1)

-- ---- why reading ends

pub fails-at-read : (text : Option (List ℕ)) (before mid failed : Bool) (limit : ℕ) (fault : RunFault) → mid ≡ before → FailsAtRead mid failed fault → FailsToRead text before failed limit fault
fails-at-read text before mid failed limit Read same h = h
fails-at-read text before mid failed limit TooLong same h = absurd h
fails-at-read text before mid failed limit BackgroundRead same h = absurd h
fails-at-read text before mid failed limit BackgroundTooLong same h = absurd h
fails-at-read text before mid failed limit EarlierRead same h = absurd h
fails-at-read text before mid failed limit EarlierTooLong same h = absurd h
fails-at-read text before mid failed limit NamesRead same h = absurd h
fails-at-read text before mid failed limit NamesTooLong same h = absurd h
fails-at-read text before mid failed limit (BadNameLine line) same h = absurd h
fails-at-read text before mid failed limit (Index fault) same h = absurd h
fails-at-read text before mid failed limit (Background fault) same h = absurd h
fails-at-read text before mid failed limit (Earlier fault) same h = absurd h
fails-at-read text before mid failed limit (UnknownAsked name) same h = absurd h
fails-at-read text before mid failed limit (Slipped slip) same h = absurd h
fails-at-read text before mid failed limit Memory same h = h ∙ same
fails-at-read text before mid failed limit Write same h = absurd h

-- it reads no more than the limit where it ends before its time
pub never-over : (old new : Option (List ℕ)) (before failed : Bool) (limit : ℕ) (fault : RunFault) → FailsAtRead before failed fault → ReadsOneOver limit old new fault
never-over old new before failed limit TooLong h = absurd h
never-over old new before failed limit Read h = tt
never-over old new before failed limit BackgroundRead h = tt
never-over old new before failed limit BackgroundTooLong h = tt
never-over old new before failed limit EarlierRead h = tt
never-over old new before failed limit EarlierTooLong h = tt
never-over old new before failed limit NamesRead h = tt
never-over old new before failed limit NamesTooLong h = tt
never-over old new before failed limit (BadNameLine line) h = tt
never-over old new before failed limit (Index fault) h = tt
never-over old new before failed limit (Background fault) h = tt
never-over old new before failed limit (Earlier fault) h = tt
never-over old new before failed limit (UnknownAsked name) h = tt
never-over old new before failed limit (Slipped slip) h = tt
never-over old new before failed limit Memory h = tt
never-over old new before failed limit Write h = tt

-- what is left is too long for what is left of the limit
over-behind : (old mid : Option (List ℕ)) (bytes : List ℕ) (room limit : ℕ) → Consumes old mid bytes → limit ≤ length bytes + room → IfSome mid (λ rest. room < length rest) → IfSome old (λ all. limit < length all)
over-behind None mid bytes room limit consumes fits over = tt
over-behind (Some all) None bytes room limit consumes fits over = absurd consumes
over-behind (Some all) (Some rest) bytes room limit consumes fits over =
    let parts : length all ≡ length bytes + length rest = ap length consumes ∙ length-append bytes rest in
    omega arith

pub fails-behind : (old mid : Option (List ℕ)) (before marked failed : Bool) (bytes : List ℕ) (room limit : ℕ) (fault : RunFault) → Consumes old mid bytes → limit ≤ length bytes + room → marked ≡ before
    → FailsToRead mid marked failed room fault → FailsToRead old before failed limit fault
fails-behind old mid before marked failed bytes room limit Read consumes fits same h = h
fails-behind old mid before marked failed bytes room limit TooLong consumes fits same h = (h.0 ∙ same, over-behind old mid bytes room limit consumes fits h.1)
fails-behind old mid before marked failed bytes room limit BackgroundRead consumes fits same h = absurd h
fails-behind old mid before marked failed bytes room limit BackgroundTooLong consumes fits same h = absurd h
fails-behind old mid before marked failed bytes room limit EarlierRead consumes fits same h = absurd h
fails-behind old mid before marked failed bytes room limit EarlierTooLong consumes fits same h = absurd h
fails-behind old mid before marked failed bytes room limit NamesRead consumes fits same h = absurd h
fails-behind old mid before marked failed bytes room limit NamesTooLong consumes fits same h = absurd h
fails-behind old mid before marked failed bytes room limit (BadNameLine line) consumes fits same h = absurd h
fails-behind old mid before marked failed bytes room limit (Index fault) consumes fits same h = absurd h
fails-behind old mid before marked failed bytes room limit (Background fault) consumes fits same h = absurd h
fails-behind old mid before marked failed bytes room limit (Earlier fault) consumes fits same h = absurd h
fails-behind old mid before marked failed bytes room limit (UnknownAsked name) consumes fits same h = absurd h
fails-behind old mid before marked failed bytes room limit (Slipped slip) consumes fits same h = absurd h
fails-behind old mid before marked failed bytes room limit Memory consumes fits same h = h ∙ same
fails-behind old mid before marked failed bytes room limit Write consumes fits same h = absurd h

-- reading the rest of a text with a fault fails
pub fails-rest : (settings : Settings) (old mid : Option (List ℕ)) (before marked failed : Bool) (front : FrontView) (held : List ℕ) (room : ℕ) (fault : RunFault) → ReadsFront settings old mid front held
    → marked ≡ before → byte_limit ≤ front.size + length held + room → FailsToRead mid marked failed room fault → FailsToRead old before failed byte_limit fault
fails-rest settings old mid before marked failed front held room fault reads kept fits fails =
    let size = size-read settings old mid front held reads in
    fails-behind old mid before marked failed (reads.text ++ held) room byte_limit fault reads.consumes (omega arith) kept fails

-- a text with a fault, which was read to its end
pub fault-behind : (settings : Settings) (old mid new : Option (List ℕ)) (before failed : Bool) (front : FrontView) (held rest : List ℕ) (room : ℕ) (fault : IndexError) → ReadsFront settings old mid front held
    → Consumes mid new rest → IsAtEnd new → failed ≡ before → length rest ≤ room → front.size + length held + room ≤ byte_limit → fault ≢ index_error.Memory → RefusesPiece settings front held fault
    → ReadsText settings old new before failed (Err fault)
fault-behind settings old mid new before failed front held rest room fault reads consumes ends kept fits within meant refuses =
    let size = size-read settings old mid front held reads in
    let parts : length ((reads.text ++ held) ++ rest) ≡ length (reads.text ++ held) + length rest = length-append (reads.text ++ held) rest in (
      (reads.text ++ held) ++ rest,
      record { consumes = consumes_more old mid new (reads.text ++ held) rest reads.consumes consumes; ends = ends; unfailed = kept; within = omega arith },
      (meant, refuses meant reads.text rest reads.is_front),
    )
