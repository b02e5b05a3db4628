-- The entries that numbers lead to, before a change and after.
use Rattle.std.proofs.Common.{◌≡◌, ◌≢◌, ℕ, Bool, true, false, cond, refl, sym, ◌∙◌, ap, Option, Some, None, inl, inr}
use Rattle.std.specs.Prelude.{◌↔◌, is_some, unwrap_or}
use Rattle.std.specs.FinMap as finite
use Rattle.std.specs.Ordering.{eq_by_cmp}
use Rattle.paths.specs.Paths.{Path, path_cmp, begins}
use Rattle.tree.specs.declared.plans.Change as stored
use Rattle.tree.specs.declared.plans.Change.TheVariants as changes
use Rattle.entries.specs.Entries.{EntryContent}
use Rattle.tree.specs.Directories.{Entries}
use Rattle.entries.specs.StoredEntries.{content_of}
use Rattle.tree.specs.Changes.{Put, Remove, Move, moved, moved_path}
use Rattle.tree.specs.Trees.{Tree, Numbers, IsNumbered, HasEntry, number_at}
use Rattle.tree.specs.Plans.{KeepsEntries}
use Rattle.tree.specs.inner.Plans.{IsSpare, planned}
use Rattle.tree.proofs.Ancestors.{some_at}
use Rattle.tree.proofs.Kept.{equal}
use Rattle.tree.proofs.Moved.{at_key, off_key, came_from, leads_to, leads_itself, led_back}
use Rattle.tree.proofs.Numbered.{inserted, removed}
use Rattle.tree.proofs.Order.{path_total, path_exact}

off_removed : {X : Type 0} (m : finite.FinMap path_cmp X) (p q : Path) → q ≢ p → finite.get (finite.remove m p) q ≡ finite.get m q
off_removed m p q apart = finite.get-remove path_total m p q ∙ by (eq_by_cmp path_cmp q p) refl
  where
    by : (b : Bool) → eq_by_cmp path_cmp q p ≡ b → cond b None (finite.get m q) ≡ finite.get m q
    by true tie = absurd (apart (path_exact q p (equal (path_cmp q p) tie)))
    by false tie = refl

module _ (d : Tree) (numbered : IsNumbered d.entries d.numbers) (free : (q : Path) → finite.get d.numbers q ≢ Some d.next_number) where
  -- the number of an entry that is there
  number_there : (p : Path) → finite.contains_key d.entries p ≡ true → finite.get d.numbers p ≡ Some (number_at d p)
  number_there p there =
      let o = some_at (finite.get d.numbers p) (numbered.there p ∙ there) in
      o.1 ∙ ap (λ x. Some (unwrap_or x d.next_number)) (sym o.1)

  -- that of an entry that isn't there yet
  number_new : (p : Path) → finite.contains_key d.entries p ≡ false → number_at d p ≡ d.next_number
  number_new p new = by (finite.get d.numbers p) refl
    where
      by : (o : Option ℕ) → finite.get d.numbers p ≡ o → unwrap_or (finite.get d.numbers p) d.next_number ≡ d.next_number
      by None is = ap (λ o. unwrap_or o d.next_number) is
      by (Some n) is = absurd (let bad : true ≡ false = sym (ap is_some is) ∙ numbered.there p ∙ new in cc)

  -- the number of a path is at that path alone
  alone : (p q : Path) → finite.get d.numbers q ≡ Some (number_at d p) → q ≡ p
  alone p q at = by (finite.contains_key d.entries p) refl
    where
      by : (b : Bool) → finite.contains_key d.entries p ≡ b → q ≡ p
      by true there = numbered.apart q p (number_at d p) at (number_there p there)
      by false new = absurd (free q (at ∙ ap (λ (n : ℕ). Some n) (number_new p new)))

  -- an entry that is there is the one with its number
  had_by : (p : Path) (n : ℕ) (e : EntryContent) → Some (number_at d p) ≡ Some n → HasEntry d.entries d.numbers n e ↔ (finite.get d.entries p ≡ Some e)
  had_by p n e is = (
    λ h. ap (λ (q : Path). finite.get d.entries q) (sym (alone p h.path (h.number ∙ sym is))) ∙ h.entry,
    λ at. record { path = p; number = number_there p (ap is_some at) ∙ is; entry = at },
  )

  -- another number is at another path
  elsewhere : (p q : Path) (n : ℕ) → Some (number_at d p) ≢ Some n → finite.get d.numbers q ≡ Some n → q ≢ p
  elsewhere p q n other at same = other (ap (λ (x : ℕ). Some x) (sym (by (ap (λ (x : Path). finite.get d.numbers x) (sym same) ∙ at))))
    where
      by : finite.get d.numbers p ≡ Some n → n ≡ number_at d p
      by at_p = sym (ap (λ o. unwrap_or o d.next_number) at_p)

  -- ---- an entry that is put

  module _ (p : Path) (e : EntryContent) where
    abbrev put_numbers : Numbers
    put_numbers = finite.insert d.numbers p (number_at d p)

    abbrev put_entries : Entries
    put_entries = finite.insert d.entries p e

    has_put : (n : ℕ) (x : EntryContent) → Some (number_at d p) ≡ Some n → HasEntry put_entries put_numbers n x ↔ (finite.get put_entries p ≡ Some x)
    has_put n x is = (
      λ h. elim (inserted d.numbers p (number_at d p) h.path n h.number) [
        | inl a ↦ ap (λ (q : Path). finite.get put_entries q) (sym a.0) ∙ h.entry
        | inr b ↦ absurd (b.0 (alone p h.path (b.1 ∙ sym is)))
      ],
      λ at. record { path = p; number = at_key d.numbers p (number_at d p) p refl ∙ is; entry = at },
    )

    others_put : (n : ℕ) (x : EntryContent) → Some (number_at d p) ≢ Some n → HasEntry d.entries d.numbers n x ↔ HasEntry put_entries put_numbers n x
    others_put n x other = (
      λ h. (let off = elsewhere p h.path n other h.number in
          record { path = h.path; number = off_key d.numbers p (number_at d p) h.path off ∙ h.number; entry = off_key d.entries p e h.path off ∙ h.entry }),
      λ h. elim (inserted d.numbers p (number_at d p) h.path n h.number) [
        | inl a ↦ absurd (other (ap (λ (k : ℕ). Some k) a.1))
        | inr b ↦ record { path = h.path; number = b.1; entry = sym (off_key d.entries p e h.path b.0) ∙ h.entry }
      ],
    )

    put_followed : KeepsEntries (record { tree = d; change = Put p e })
    put_followed = record { had = λ n x is. had_by p n x is; has = has_put; others = others_put }

  -- ---- one that is taken away

  module _ (p : Path) where
    has_removed : (n : ℕ) (x : EntryContent) → Some (number_at d p) ≡ Some n → HasEntry (finite.remove d.entries p) (finite.remove d.numbers p) n x ↔ (None ≡ Some x)
    has_removed n x is = (
      λ h. (let a = removed d.numbers p h.path n h.number in absurd (a.0 (alone p h.path (a.1 ∙ sym is)))),
      λ bad. absurd (let none : None ≡ Some x = bad in cc),
    )

    others_removed : (n : ℕ) (x : EntryContent) → Some (number_at d p) ≢ Some n → HasEntry d.entries d.numbers n x ↔ HasEntry (finite.remove d.entries p) (finite.remove d.numbers p) n x
    others_removed n x other = (
      λ h. (let off = elsewhere p h.path n other h.number in
          record { path = h.path; number = off_removed d.numbers p h.path off ∙ h.number; entry = off_removed d.entries p h.path off ∙ h.entry }),
      λ h. record { path = h.path; number = (removed d.numbers p h.path n h.number).1; entry = (removed d.entries p h.path x h.entry).1 },
    )

    removed_followed : KeepsEntries (record { tree = d; change = Remove p })
    removed_followed = record { had = λ n x is. had_by p n x is; has = has_removed; others = others_removed }

  -- ---- one that moves

  module _ (from to : Path) (e : EntryContent) (spare : (q : Path) (n : ℕ) → finite.get d.numbers q ≡ Some n → begins to q ≡ false) where
    abbrev moved_numbers : Numbers
    moved_numbers = finite.insert (moved from to d.numbers) to (number_at d from)

    abbrev all_moved : Entries
    all_moved = finite.insert (moved from to d.entries) to e

    spare_entries : (q : Path) (x : EntryContent) → finite.get d.entries q ≡ Some x → begins to q ≡ false
    spare_entries q x at = spare q (number_at d q) (number_there q (ap is_some at))

    -- where a path leads, no other one does
    led_off : (q : Path) (n : ℕ) → finite.get d.numbers q ≡ Some n → q ≢ from → moved_path from to q ≢ to
    led_off q n at off same = off (led_back from to q same (spare q n at))

    has_moved : (n : ℕ) (x : EntryContent) → Some (number_at d from) ≡ Some n → HasEntry all_moved moved_numbers n x ↔ (finite.get all_moved to ≡ Some x)
    has_moved n x is = (
      λ h. elim (inserted (moved from to d.numbers) to (number_at d from) h.path n h.number) [
        | inl a ↦ ap (λ (q : Path). finite.get all_moved q) (sym a.0) ∙ h.entry
        | inr b ↦ (
            let c = came_from from to d.numbers h.path n b.1 in
            absurd (b.0 (sym c.2 ∙ ap (moved_path from to) (alone from c.0 (c.1 ∙ sym is)) ∙ leads_itself from to)))
      ],
      λ at. record { path = to; number = at_key (moved from to d.numbers) to (number_at d from) to refl ∙ is; entry = at },
    )

    -- the entry that moved to a path is that with the number there
    came_together : (q : Path) (n : ℕ) (x : EntryContent) → finite.get (moved from to d.numbers) q ≡ Some n → finite.get (moved from to d.entries) q ≡ Some x → HasEntry d.entries d.numbers n x
    came_together q n x number entry =
        let c = came_from from to d.entries q x entry in
        let there = number_there c.0 (ap is_some c.1) in
        record {
          path = c.0;
          number = there ∙ sym (leads_to from to d.numbers spare c.0 (number_at d c.0) there) ∙ ap (λ (z : Path). finite.get (moved from to d.numbers) z) c.2 ∙ number;
          entry = c.1;
        }

    others_moved : (n : ℕ) (x : EntryContent) → Some (number_at d from) ≢ Some n → HasEntry d.entries d.numbers n x ↔ HasEntry all_moved moved_numbers n x
    others_moved n x other = (
      λ h. (let off = led_off h.path n h.number (elsewhere from h.path n other h.number) in
          record {
            path = moved_path from to h.path;
            number = off_key (moved from to d.numbers) to (number_at d from) (moved_path from to h.path) off ∙ leads_to from to d.numbers spare h.path n h.number;
            entry = off_key (moved from to d.entries) to e (moved_path from to h.path) off ∙ leads_to from to d.entries spare_entries h.path x h.entry;
          }),
      λ h. elim (inserted (moved from to d.numbers) to (number_at d from) h.path n h.number) [
        | inl a ↦ absurd (other (ap (λ (k : ℕ). Some k) a.1))
        | inr b ↦ came_together h.path n x b.1 (sym (off_key (moved from to d.entries) to e h.path b.0) ∙ h.entry)
      ],
    )

    moved_followed : KeepsEntries (record { tree = d; change = Move from to e })
    moved_followed = record { had = λ n x is. had_by from n x is; has = has_moved; others = others_moved }

-- numbers lead to the entries that they led to, but for that of the entry that changes
pub followed : (d : Tree) (c : stored.Change) → IsNumbered d.entries d.numbers → ((q : Path) → finite.get d.numbers q ≢ Some d.next_number) → IsSpare d c → KeepsEntries (planned d c)
followed d changes.Nothing numbered free spare = record { had = λ n e is. absurd cc; has = λ n e is. absurd cc; others = λ n e other. (λ h. h, λ h. h) }
followed d (changes.Add path number entry) numbered free spare = put_followed d numbered free path (content_of entry)
followed d (changes.Replace path number entry) numbered free spare = put_followed d numbered free path (content_of entry)
followed d (changes.Remove path number) numbered free spare = removed_followed d numbered free path
followed d (changes.Move from to number entry) numbered free spare = moved_followed d numbered free from to (content_of entry) spare
