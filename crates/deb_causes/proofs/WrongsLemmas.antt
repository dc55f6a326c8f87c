-- Cores that are numbered one after the other.
use Rattle.std.proofs.Common.{ℕ, List, [], ◌++◌, All, map, sym, subst}
use Rattle.std.specs.List.{flat_map}
use Rattle.std.proofs.lemmas.Grind.{flat_map-append}
use Rattle.std.proofs.lemmas.List.{map-append}
use Rattle.std.proofs.lemmas.List.Elements.{All-append, All-nil}
use Rattle.deb_index.specs.declared.constraint.Constraint.{Constraint}
use Rattle.deb_index.specs.Constraints.{IsOfIndex}
use Rattle.deb_index.specs.Packages.{IndexView}
use Rattle.deb_health.specs.Causes.{cause_in}
use Rattle.deb_health.specs.Verdicts.{ToldView, Installable, Found, Blocked, IsAskedOf}
use Rattle.deb_causes.specs.declared.wrongs.Wrongs.{Wrongs}
use Rattle.deb_causes.specs.Causes.{cores_of, says}
use Rattle.deb_causes.specs.Numbering.{Grows}
use Rattle.deb_causes.specs.Wrongs.{IsNumbered, key_of, AreNumbered, causes_of, said_of}
use Rattle.deb_causes.proofs.NumberingLemmas.{grows-more, grows-none}

pub numbered-none : (index : IndexView) (wrongs : Wrongs) → AreNumbered index wrongs wrongs []
numbered-none index wrongs = record {
  said = grows-none (said_of wrongs);
  causes = λ texts once begins. grows-none (causes_of wrongs);
  each = λ texts keys once begins also. All-nil (IsNumbered index texts keys);
}

pub numbered-more : (index : IndexView) (a b c : Wrongs) (xs ys : List (ℕ × List Constraint)) → AreNumbered index a b xs → AreNumbered index b c ys → AreNumbered index a c (xs ++ ys)
numbered-more index a b c xs ys first next =
    let texts_in : ℕ × List Constraint → List (List ℕ) = λ core. map (says index) (cause_in index core.1) in
    record {
      said =
          subst (λ added. Grows (said_of a) (said_of c) added) (sym (flat_map-append texts_in xs ys))
          (grows-more (said_of a) (said_of b) (said_of c) (flat_map texts_in xs) (flat_map texts_in ys) first.said next.said);
      causes = λ texts once begins.
          let key : ℕ × List Constraint → List ℕ = λ core. key_of index texts (cause_in index core.1) in
          subst (λ added. Grows (causes_of a) (causes_of c) added) (sym (map-append key xs ys))
          (grows-more (causes_of a) (causes_of b) (causes_of c) (map key xs) (map key ys) (first.causes texts once (next.said.front texts begins)) (next.causes texts once begins));
      each = λ texts keys once begins also.
          All-append (IsNumbered index texts keys) xs ys
          (first.each texts keys once (next.said.front texts begins) ((next.causes texts once begins).front keys also))
          (next.each texts keys once begins also);
    }

-- ---- the cores are of the index

pub cores-within : (index : IndexView) (one : ℕ × ToldView) → IsAskedOf index one → All (All (IsOfIndex index)) (cores_of one).1
cores-within index (place, Installable) asked = All-nil (All (IsOfIndex index))
cores-within index (place, Found places) asked = All-nil (All (IsOfIndex index))
cores-within index (place, Blocked told) asked = asked.1
