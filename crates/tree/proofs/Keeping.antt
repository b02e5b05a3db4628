-- What a plan does to the numbers.
use Rattle.std.proofs.Common.{◌≡◌, ◌≢◌, ℕ, Bool, true, false, cond, refl, sym, ◌∙◌, ap, Some, None}
use Rattle.std.specs.Prelude.{unwrap_or}
use Rattle.std.specs.Ordering.{eq_by_cmp, is_eq}
use Rattle.std.specs.FinMap as finite
use Rattle.std.proofs.lemmas.Cmp.{tied_itself}
use Rattle.paths.specs.Paths.{Path, path_cmp}
use Rattle.tree.specs.declared.plans.Change as stored
use Rattle.tree.specs.declared.plans.Change.TheVariants as changes
use Rattle.entries.specs.Entries.{EntryContent}
use Rattle.entries.specs.StoredEntries.{content_of}
use Rattle.tree.specs.Changes.{Put, moved, moved_path}
use Rattle.tree.specs.Trees.{Tree, Numbers, number_at}
use Rattle.tree.specs.Plans.{KeepsNumbers}
use Rattle.tree.specs.inner.Plans.{IsSpare, planned}
use Rattle.tree.proofs.Kept.{equal}
use Rattle.tree.proofs.Moved.{off_key, came_from, leads_to, led_back}
use Rattle.tree.proofs.Numbered.{removed}
use Rattle.tree.proofs.Order.{path_total, path_exact}

same_some : {A : Type 0} (x y : A) → Some x ≡ Some y → x ≡ y
same_some x y e = cc

remove_other : (m : Numbers) (p q : Path) → Some p ≢ Some q → finite.get (finite.remove m p) q ≡ finite.get m q
remove_other m p q apart = finite.get-remove path_total m p q ∙ by (eq_by_cmp path_cmp q p) refl
  where
    by : (b : Bool) → eq_by_cmp path_cmp q p ≡ b → cond b None (finite.get m q) ≡ finite.get m q
    by true tie = absurd (apart (ap (λ (x : Path). Some x) (sym (path_exact q p (equal (path_cmp q p) tie)))))
    by false tie = refl

not_same : (p q : Path) → Some p ≢ Some q → q ≢ p
not_same p q apart same = apart (ap (λ (x : Path). Some x) (sym same))

put_own : (m : Numbers) (p q : Path) (n : ℕ) → Some p ≡ Some q → finite.get (finite.insert m p n) q ≡ Some n
put_own m p q n is =
    ap (λ (x : Path). finite.get (finite.insert m p n) x) (sym (same_some p q is))
    ∙ finite.get-insert path_total m p n p ∙ ap (λ o. cond (is_eq o) (Some n) (finite.get m p)) (tied_itself path_total p)

-- the number of an entry that is there
had : (d : Tree) (p q : Path) (n : ℕ) → Some p ≡ Some q → finite.get d.numbers q ≡ Some n → Some (number_at d p) ≡ Some n
had d p q n is at = ap (λ (x : Path). Some (number_at d x)) (same_some p q is) ∙ ap (λ o. Some (unwrap_or o d.next_number)) at

put_keeps : (d : Tree) (path : Path) (entry : EntryContent) → KeepsNumbers (record { tree = d; change = Put path entry })
put_keeps d path entry = record {
  before = λ q n is at. had d path q n is at;
  after = λ q is. put_own d.numbers path q (number_at d path) is;
  others = λ q n a at. off_key d.numbers path (number_at d path) q (not_same path q a) ∙ at;
  only = λ q n b at. (q, sym (off_key d.numbers path (number_at d path) q (not_same path q b)) ∙ at, refl);
}

pub keeps_numbers : (d : Tree) (c : stored.Change) → IsSpare d c → KeepsNumbers (planned d c)
keeps_numbers d changes.Nothing spare = record { before = λ q n is at. cc; after = λ q is. cc; others = λ q n a at. at; only = λ q n b at. (q, at, refl) }
keeps_numbers d (changes.Add path number entry) spare = put_keeps d path (content_of entry)
keeps_numbers d (changes.Replace path number entry) spare = put_keeps d path (content_of entry)
keeps_numbers d (changes.Remove path number) spare = record {
  before = λ q n is at. had d path q n is at;
  after = λ q is. cc;
  others = λ q n a at. remove_other d.numbers path q a ∙ at;
  only = λ q n b at. (q, (removed d.numbers path q n at).1, refl);
}
keeps_numbers d (changes.Move from to number entry) spare = record {
  before = λ q n is at. had d from q n is at;
  after = λ q is. put_own (moved from to d.numbers) to q (number_at d from) is;
  others = λ q n a at.
      off_key (moved from to d.numbers) to (number_at d from) (moved_path from to q) (λ same. not_same from q a (led_back from to q same (spare q n at)))
      ∙ leads_to from to d.numbers spare q n at;
  only = λ q n b at.
      came_from from to d.numbers q n (sym (off_key (moved from to d.numbers) to (number_at d from) q (not_same to q b)) ∙ at);
}
