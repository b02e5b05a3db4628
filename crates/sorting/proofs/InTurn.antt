-- Stanzas in turn: none stands behind one that it is above, all are there, and those that are in order stay as they are.
use Rattle.std.proofs.Common.{◌≡◌, ℕ, zero, suc, ◌+◌, ◌<◌, Bool, true, false, List, [], ◌∷◌, ◌++◌, map, length, length-append, get_or, Option, None, refl, sym, ap, subst, ◌∙◌, append_assoc, arith}
use Rattle.std.specs.Prelude.{Result, Ok, Err}
use Rattle.std.specs.BTreeSet.{insert_key}
use Rattle.std.specs.Cmp.{IsTotalOrder, on_total}
use Rattle.std.specs.List.{AllByRecursion}
use Rattle.std.specs.List.Sorted.{IsStrictlySortedBy}
use Rattle.std.specs.Ordering.{match_ordering, ordering_reverse}
use Rattle.std.specs.declared.cmp.Ordering.{Ordering}
use Rattle.std.specs.declared.cmp.Ordering.TheVariants.{Less, Equal, Greater}
use Rattle.std.proofs.lemmas.List.{get_or_default}
use Rattle.std.proofs.lemmas.Cmp.{nat_cmp_total, then_total}
use Rattle.ldif_lines.specs.Records.{RawRecord, records}
use Rattle.ldif.specs.Reading.{reading}
use Rattle.ldif.specs.declared.fault.LdifFaultKind.{LdifFaultKind}
use Rattle.ldif.specs.declared.record.Mode.TheVariants.{Content}
use Rattle.ldif.specs.declared.record.Record.{Record}
use Rattle.ldif.specs.declared.record.Record.TheVariants as records_of
use Rattle.dn.specs.Names.{Name}
use Rattle.schema.specs.Names.{name_in}
use Rattle.schema.specs.declared.code.Code.{Code}
use Rattle.sorting.specs.NormalNames.{name_or_none, name_of_record, name_of_first, name_of_stanza}
use Rattle.sorting.specs.Turns.{turn_of, turns_from, turn_cmp, with_turns, turns}
use Rattle.sorting.specs.Orders.{is_above, AreInOrder}
use Rattle.sorting.specs.Sorted.{names_of, in_turn, sorted_stanzas}
use Rattle.sorting.specs.declared.normal_names.NormalName.{NormalName}
use Rattle.sorting.specs.declared.turns.Turn.{Turn}
use Rattle.sorting.proofs.Aboves.{IsMadeOrNone, earlier, read_is_made}

abbrev pub Names : Type 0
Names = List (Option NormalName)

-- ---- turns rise

turn_total : IsTotalOrder turn_cmp
turn_total = then_total (on_total (λ (t : Turn). t.position) nat_cmp_total) (then_total (on_total (λ (t : Turn). t.depth) nat_cmp_total) (on_total (λ (t : Turn). t.number) nat_cmp_total))

turned : (s t : Turn) (o : Ordering) → turn_cmp s t ≡ o → turn_cmp t s ≡ ordering_reverse o
turned s t o e = turn_total.antisymm t s ∙ ap ordering_reverse e

module _ (P : Turn → Type 0) (k : Turn) (p : P k) where
  all_inserted : (ks : List Turn) → AllByRecursion P ks → AllByRecursion P (insert_key turn_cmp ks k)
  all_inserted [] all = (p, tt)
  all_inserted (x ∷ xs) all = by (turn_cmp k x) (all_inserted xs all.1)
    where
      by : (o : Ordering) → AllByRecursion P (insert_key turn_cmp xs k) → AllByRecursion P (match_ordering o (k ∷ x ∷ xs) (x ∷ xs) (x ∷ insert_key turn_cmp xs k))
      by Less h = (p, all)
      by Equal h = all
      by Greater h = (all.0, h)

all_with : (P : Turn → Type 0) (so_far ts : List Turn) → AllByRecursion P so_far → AllByRecursion P ts → AllByRecursion P (with_turns so_far ts)
unfolding with_turns
all_with P so_far [] a b = a
all_with P so_far (t ∷ ts) a b = all_with P (insert_key turn_cmp so_far t) ts (all_inserted P t b.0 so_far a) b.1

all_less : (k x : Turn) (xs : List Turn) → turn_cmp k x ≡ Less → AllByRecursion (λ y. turn_cmp x y ≡ Less) xs → AllByRecursion (λ y. turn_cmp k y ≡ Less) xs
all_less k x [] e all = tt
all_less k x (y ∷ ys) e all = (turn_total.trans k x y e all.0, all_less k x ys e all.1)

rises : (ks : List Turn) (k : Turn) → IsStrictlySortedBy turn_cmp ks → IsStrictlySortedBy turn_cmp (insert_key turn_cmp ks k)
unfolding IsStrictlySortedBy
rises [] k up = (tt, tt)
rises (x ∷ xs) k up = by (turn_cmp k x) refl (rises xs k up.1)
  where
    by : (o : Ordering) → turn_cmp k x ≡ o → IsStrictlySortedBy turn_cmp (insert_key turn_cmp xs k)
        → IsStrictlySortedBy turn_cmp (match_ordering o (k ∷ x ∷ xs) (x ∷ xs) (x ∷ insert_key turn_cmp xs k))
    by Less e h = ((e, all_less k x xs e up.0), up)
    by Equal e h = up
    by Greater e h = (all_inserted (λ y. turn_cmp x y ≡ Less) k (turned k x Greater e) xs up.0, h)

all_rise : (so_far ts : List Turn) → IsStrictlySortedBy turn_cmp so_far → IsStrictlySortedBy turn_cmp (with_turns so_far ts)
unfolding with_turns
all_rise so_far [] up = up
all_rise so_far (t ∷ ts) up = all_rise (insert_key turn_cmp so_far t) ts (rises so_far t up)

-- ---- each is the turn of its stanza

pub record IsTurn (names : Names) (t : Turn) : Type 0 where
  pub below : t.number < length names
  pub is : t ≡ turn_of names t.number (get_or names t.number None)

at_end : (front : Names) (name : Option NormalName) (more : Names) → get_or (front ++ name ∷ more) (length front) None ≡ name
at_end [] name more = refl
at_end (x ∷ xs) name more = at_end xs name more

are_turns : (names front more : Names) (n : ℕ) → names ≡ front ++ more → n ≡ length front → AllByRecursion (IsTurn names) (turns_from names n more)
unfolding turns_from
are_turns names front [] n whole count = tt
are_turns names front (name ∷ more) n whole count = (
  record {
    below = let long = ap (λ (l : Names). length l) whole ∙ length-append front (name ∷ more) in omega (arith, long, count);
    is = ap (turn_of names n) (sym (ap (λ (l : Names). get_or l n None) whole ∙ ap (λ (m : ℕ). get_or (front ++ name ∷ more) m None) count ∙ at_end front name more));
  },
  are_turns names (front ++ name ∷ []) more (n + 1) (whole ∙ sym (append_assoc front (name ∷ []) more)) (let long = length-append front (name ∷ []) in omega (arith, long, count)),
)

-- ---- none stands behind one that it is above

abbrev pub name_at : Names → Turn → Option NormalName
name_at names t = get_or names t.number None

module _ (names : Names) (made : (i : ℕ) → IsMadeOrNone (get_or names i None)) where
  not_above : (t u : Turn) → IsTurn names t → IsTurn names u → turn_cmp t u ≡ Less → is_above (name_at names u) (name_at names t) ≡ false
  not_above t u a b less = by (is_above (name_at names u) (name_at names t)) refl
    where
      by : (above : Bool) → is_above (name_at names u) (name_at names t) ≡ above → above ≡ false
      by false e = refl
      by true e =
          let before : turn_cmp u t ≡ Less =
          (λ i. turn_cmp (b.is i) (a.is i)) ∙ earlier names u.number t.number (name_at names u) (name_at names t) b.below (get_or_default names u.number None (name_at names u) b.below) (made u.number) (made t.number) e in
          let no : Greater ≡ Less = sym (turned t u Less less) ∙ before in
          cc

  none_above : (t : Turn) (ts : List Turn) → IsTurn names t → AllByRecursion (IsTurn names) ts → AllByRecursion (λ u. turn_cmp t u ≡ Less) ts
      → AllByRecursion (λ later. is_above later (name_at names t) ≡ false) (map (name_at names) ts)
  none_above t [] a all less = tt
  none_above t (u ∷ us) a all less = (not_above t u a all.0 less.0, none_above t us a all.1 less.1)

  pub in_order : (ts : List Turn) → AllByRecursion (IsTurn names) ts → IsStrictlySortedBy turn_cmp ts → AreInOrder (map (name_at names) ts)
  unfolding IsStrictlySortedBy
  in_order [] all up = tt
  in_order (t ∷ ts) all up = (none_above t ts all.0 all.1 up.0, in_order ts all.1 up.1)

-- ---- stanzas

made_of_dn : (r : Result Name Code) → IsMadeOrNone (name_or_none r)
made_of_dn (Ok n) = read_is_made n
made_of_dn (Err code) = tt

made_of_record : (r : Result Record LdifFaultKind) → IsMadeOrNone (name_of_record r)
made_of_record (Ok records_of.Empty) = tt
made_of_record (Ok (records_of.Content dn attrs)) = made_of_dn (name_in dn)
made_of_record (Ok (records_of.Add dn controls attrs)) = tt
made_of_record (Ok (records_of.Delete dn controls)) = tt
made_of_record (Ok (records_of.Modify dn controls mods)) = tt
made_of_record (Ok (records_of.ModRdn dn controls newrdn delete_old new_superior)) = tt
made_of_record (Err fault) = tt

made_of_first : (rs : List RawRecord) → IsMadeOrNone (name_of_first rs)
made_of_first [] = tt
made_of_first (r ∷ rs) = made_of_record (reading Content r.first r.lines)

made_stanza : (stanza : List ℕ) → IsMadeOrNone (name_of_stanza stanza)
unfolding name_of_stanza
made_stanza stanza = made_of_first (records stanza)

made_stanzas : (ps : List (List ℕ)) (i : ℕ) → IsMadeOrNone (get_or (names_of ps) i None)
made_stanzas [] i = tt
made_stanzas (p ∷ ps) zero = made_stanza p
made_stanzas (p ∷ ps) (suc i) = made_stanzas ps i

at_names : (ps : List (List ℕ)) (i : ℕ) → i < length (names_of ps) → get_or (names_of ps) i None ≡ name_of_stanza (get_or ps i [])
at_names [] i lt = absurd (omega (arith, lt))
at_names (p ∷ ps) zero lt = refl
at_names (p ∷ ps) (suc i) lt = at_names ps i (omega (arith, lt))

same_names : (ps : List (List ℕ)) (ts : List Turn) → AllByRecursion (IsTurn (names_of ps)) ts → names_of (in_turn ps ts) ≡ map (name_at (names_of ps)) ts
same_names ps [] all = refl
same_names ps (t ∷ ts) all = λ i. sym (at_names ps t.number all.0.below) i ∷ same_names ps ts all.1 i

turns_are : (ps : List (List ℕ)) → AllByRecursion (IsTurn (names_of ps)) (turns (names_of ps))
unfolding turns
turns_are ps = all_with (IsTurn (names_of ps)) [] (turns_from (names_of ps) 0 (names_of ps)) tt (are_turns (names_of ps) [] (names_of ps) 0 refl refl)

turns_rise : (names : Names) → IsStrictlySortedBy turn_cmp (turns names)
unfolding turns IsStrictlySortedBy
turns_rise names = all_rise [] (turns_from names 0 names) tt

pub sorted_in_order : (ps : List (List ℕ)) → AreInOrder (names_of (sorted_stanzas ps))
sorted_in_order ps = subst AreInOrder (sym (same_names ps (turns (names_of ps)) (turns_are ps))) (in_order (names_of ps) (made_stanzas ps) (turns (names_of ps)) (turns_are ps) (turns_rise (names_of ps)))
