use Rattle.std.proofs.Common.{◌≡◌, ◌≤◌, List, [], ◌∷◌, ◌++◌, ◌+◌, ◌-◌, ◌∙◌, ap, length, map, refl, take, drop, subst, sym, arith}
use Rattle.std.specs.List.{All}
use Rattle.std.proofs.lemmas.List.{get_or-drop, take_all}
use Rattle.deb_index.specs.declared.links.Start.{Start}
use Rattle.deb_index.specs.Links.{start_behind}
use Rattle.deb_index.proofs.links.Links.followed_by.Goals as goal

-- what holds of all holds of those behind the first
all-behind : (P : Start → Type 0) (xs : List Start) → All P xs → All P (take (length xs - 1) (drop 1 xs))
all-behind P [] all = λ k d less. absurd (omega (arith, less))
all-behind P (x ∷ xs) all = subst (λ ys. All P ys) (sym (take_all (length (x ∷ xs) - 1) xs (omega arith))) (λ k d less. subst P (sym (get_or-drop 1 (x ∷ xs) k d)) (all (1 + k) d (omega (arith, less))))

pub push_behind-requires-clause-groups : goal.push_behind-requires-clause-groups
push_behind-requires-clause-groups c =
    let more = c.args.more.now in
    let P : Start → Type 0 = λ s. (s.group ≤ length more.groups) × (s.entry ≤ length more.entries) in
    let begun = all-behind P c.deref.result.now (subst (λ ss. All P ss) (sym c.deref.ensures.value) c.requires.begun) in
    λ k d less. omega (arith, (begun k d less).0, c.len.ensures, c.requires.groups)

pub push_behind-requires-clause-entries : goal.push_behind-requires-clause-entries
push_behind-requires-clause-entries c =
    let more = c.args.more.now in
    let P : Start → Type 0 = λ s. (s.group ≤ length more.groups) × (s.entry ≤ length more.entries) in
    let begun = all-behind P c.deref.result.now (subst (λ ss. All P ss) (sym c.deref.ensures.value) c.requires.begun) in
    λ k d less. omega (arith, (begun k d less).1, c.len-2.ensures, c.requires.entries)

-- a list from its second element on
behind-first : (xs : List Start) → take (length xs - 1) (drop 1 xs) ≡ drop 1 xs
behind-first [] = refl
behind-first (x ∷ xs) = take_all (length (x ∷ xs) - 1) xs (omega arith)

pub returns : goal.returns
returns c =
    let old = c.args.self.starts.items in
    let rest = behind-first c.deref.result.now ∙ ap (drop 1) c.deref.ensures.value in
    record {
      starts = c.in_ok-push_behind.ensures ∙ (λ i. old ++ map (start_behind (record { group = c.len.ensures i; entry = c.len-2.ensures i })) (rest i));
      groups = c.in_ok-groups.ensures;
      entries = c.in_ok-entries.ensures;
    }
