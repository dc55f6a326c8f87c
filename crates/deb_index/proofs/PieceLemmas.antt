-- A text in pieces: the index of a front of it, with a piece more, with a fault, and at its end.
use Rattle.std.proofs.Common.{◌≡◌, ◌≤◌, ◌+◌, ◌-◌, ◌⊎◌, inl, inr, ℕ, Bool, List, [], ◌∷◌, ◌++◌, length, Ok, Err, refl, sym, ap, subst, ◌∙◌, arith, length-append}
use Rattle.std.specs.List.{sum_by}
use Rattle.std.proofs.lemmas.List.{append-nil, nil_from_length}
use Rattle.deb_control.specs.Stanzas.{IsClosed, size_of, stanzas_of}
use Rattle.deb_control.proofs.CutLemmas.{stanzas-uncut}
use Rattle.deb_control.proofs.SizeLemmas.{stanza-sizes}
use Rattle.deb_index.specs.declared.error.BothError.TheVariants.{Back}
use Rattle.deb_index.specs.declared.error.IndexError.{IndexError}
use Rattle.deb_index.specs.Packages.{IndexView, first_of_each}
use Rattle.deb_index.specs.Built.{FrontView, IsFrontOf, IsWithin}
use Rattle.deb_index.specs.Reading.{◌>>=◌, byte_limit, collected, continued, index_of, index_of_both, read_behind, readings, with_foreground}
use Rattle.deb_index.proofs.BothLemmas.{both-back, both-ok}
use Rattle.deb_index.proofs.CollectLemmas.{collected-on, collected-stanzas, failed-from, taken-of}
use Rattle.deb_index.proofs.TakenLemmas.{Taken, continued-on, length-read, stopped}

-- ---- what stands behind a front

goes-on : (text piece more : List ℕ) → IsClosed (text ++ piece) ⊎ (more ≡ []) → stanzas_of (text ++ piece ++ more) ≡ stanzas_of (text ++ piece) ++ stanzas_of more
goes-on text piece more (inl closed) = closed more
goes-on text piece more (inr none) =
    subst (λ (rest : List ℕ). stanzas_of (text ++ piece ++ rest) ≡ stanzas_of (text ++ piece) ++ stanzas_of rest) (sym none)
    (ap stanzas_of (append-nil (text ++ piece)) ∙ stanzas-uncut (text ++ piece))

none-left : stanzas_of [] ≡ []
none-left =
    let twice = ap (λ (stanzas : List (List (List ℕ))). length stanzas) (stanzas-uncut []) ∙ length-append (stanzas_of []) (stanzas_of []) in
    nil_from_length (stanzas_of []) (omega (arith, twice))

-- where all stanzas that were read stood in an earlier text, a text is read from its first stanza on
pub behind-all : (mid : IndexView) (before : ℕ) (text : List ℕ) → before ≡ mid.stanzas → read_behind mid before (stanzas_of text) ≡ continued mid (readings mid.arch mid.stanzas 0 (stanzas_of text))
behind-all mid before text all =
    let none : mid.stanzas - before ≡ 0 = omega (arith, all) in
    ap (λ n. continued mid (readings mid.arch before n (stanzas_of text))) none ∙ ap (λ m. continued mid (readings mid.arch m 0 (stanzas_of text))) all

-- an index of no text
pub front-none : (arch : List ℕ) (with_essential : Bool) (front : FrontView) → front.index ≡ collected arch with_essential [] → front.size ≡ 0 → IsFrontOf arch with_essential [] front
unfolding readings
front-none arch with_essential front is none = record { read = []; reads = ap (readings arch 0 0) none-left; is_index = is; sized = none }

module _ (arch : List ℕ) (with_essential : Bool) (text : List ℕ) (front : FrontView) (is : IsFrontOf arch with_essential text front) where
  abbrev fresh : IndexView
  fresh = collected arch with_essential []

  begun : continued fresh (readings arch 0 0 (stanzas_of text)) ≡ Ok front.index
  begun = ap (continued fresh) is.reads ∙ ap (λ (i : IndexView). Ok i) (collected-on arch with_essential [] is.read ∙ sym is.is_index)

  counted : length (stanzas_of text) ≡ front.index.stanzas
  counted = sym (length-read arch 0 0 (stanzas_of text) is.read is.reads) ∙ sym (ap (λ (i : IndexView). i.stanzas) is.is_index ∙ collected-stanzas arch with_essential is.read)

  own : front.index.arch ≡ arch
  unfolding collected
  own = ap (λ (i : IndexView). i.arch) is.is_index

  -- the stanzas of a piece go on with the numbers of the text
  with-piece : (piece : List ℕ) → IsClosed text → continued fresh (readings arch 0 0 (stanzas_of (text ++ piece))) ≡ continued front.index (readings front.index.arch 0 (front.index.stanzas - 0) (stanzas_of piece))
  with-piece piece closed =
      ap (λ stanzas. continued fresh (readings arch 0 0 stanzas)) (closed piece)
      ∙ continued-on arch 0 0 fresh (stanzas_of text) (stanzas_of piece) front.index (front.index.stanzas - 0) begun (omega (arith, counted))
      ∙ ap (λ a. continued front.index (readings a 0 (front.index.stanzas - 0) (stanzas_of piece))) (sym own)

  pub front-more : (piece : List ℕ) (next : FrontView) → IsClosed text → continued front.index (readings front.index.arch 0 (front.index.stanzas - 0) (stanzas_of piece)) ≡ Ok next.index → next.size ≡ front.size + length piece
      → IsFrontOf arch with_essential (text ++ piece) next
  front-more piece next closed read size =
      let t = taken-of arch with_essential (readings arch 0 0 (stanzas_of (text ++ piece))) next.index (with-piece piece closed ∙ read) in
      record { read = t.0; reads = t.1; is_index = t.2; sized = omega (arith, size, is.sized, length-append text piece) }

  pub front-fault : (piece more : List ℕ) (e : IndexError) → IsClosed text → IsClosed (text ++ piece) ⊎ (more ≡ []) → continued front.index (readings front.index.arch 0 (front.index.stanzas - 0) (stanzas_of piece)) ≡ Err e
      → index_of (text ++ piece ++ more) arch with_essential ≡ Err e
  unfolding index_of
  front-fault piece more e closed ends fault =
      let stops = stopped arch 0 0 fresh (stanzas_of (text ++ piece)) (stanzas_of more) e (with-piece piece closed ∙ fault) in
      let whole = ap (λ stanzas. continued fresh (readings arch 0 0 stanzas)) (goes-on text piece more ends) ∙ stops in
      ap (λ r. r >>= λ all. Ok (with_foreground (collected arch with_essential all))) (failed-from fresh (readings arch 0 0 (stanzas_of (text ++ piece ++ more))) e whole)

  -- ---- at the end of the text

  first : continued fresh (readings arch fresh.stanzas 0 (stanzas_of text)) ≡ Ok front.index
  first = ap (λ n. continued fresh (readings arch n 0 (stanzas_of text))) (collected-stanzas arch with_essential []) ∙ begun

  module _ (mid : IndexView) (mid_is : mid ≡ with_foreground front.index) (background : List ℕ) where
    mid-arch : mid.arch ≡ arch
    mid-arch = ap (λ (i : IndexView). i.arch) mid_is ∙ own

    pub front-index : (index : IndexView) → continued mid (readings mid.arch mid.stanzas 0 (stanzas_of background)) ≡ Ok index → index_of_both text background arch with_essential ≡ Ok index
    front-index index second =
        both-ok text background arch with_essential fresh front.index mid refl first mid_is index
        (subst (λ (a : List ℕ). continued mid (readings a mid.stanzas 0 (stanzas_of background)) ≡ Ok index) mid-arch second)

    pub front-back : (e : IndexError) → continued mid (readings mid.arch mid.stanzas 0 (stanzas_of background)) ≡ Err e → index_of_both text background arch with_essential ≡ Err (Back e)
    front-back e second =
        both-back text background arch with_essential fresh front.index mid refl first mid_is e
        (subst (λ (a : List ℕ). continued mid (readings a mid.stanzas 0 (stanzas_of background)) ≡ Err e) mid-arch second)

-- ---- room

-- a piece without a stanza has none to ask for anything
piece-sizes : (n : ℕ) (stanzas : List (List (List ℕ))) → sum_by size_of stanzas ≤ n + 1 → sum_by size_of stanzas ≤ n + length stanzas
piece-sizes n [] h = omega arith
piece-sizes n (stanza ∷ more) h = omega (arith, h)

pub stays-within : (front next : FrontView) (piece : List ℕ) → IsWithin front → Taken front.index (stanzas_of piece) next.index → next.size ≡ front.size + length piece → front.size + length piece ≤ byte_limit → IsWithin next
stays-within front next piece w t size short =
    let sizes = piece-sizes (length piece) (stanzas_of piece) (stanza-sizes piece) in
    record { few = t.few w.few; short = omega (arith, size, short); room = omega (arith, w.room, t.asks, t.counts, sizes, size) }

pub fresh-within : (arch : List ℕ) (with_essential : Bool) (index : IndexView) → index ≡ collected arch with_essential [] → IsWithin (record { index = index; size = 0 })
unfolding collected first_of_each
fresh-within arch with_essential index is = subst (λ (i : IndexView). IsWithin (record { index = i; size = 0 })) (sym is) (record { few = omega arith; short = omega arith; room = omega arith })
