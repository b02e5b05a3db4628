-- Changes carried out on what a tree keeps.
use Rattle.std.proofs.Common.{◌≡◌, ◌≢◌, ℕ, ◌+◌, ◌-◌, ◌<◌, Bool, true, false, cond, List, length, refl, sym, ◌∙◌, ap, subst, Option, Some, None, arith}
use Rattle.std.specs.Prelude.{IsSome, IsSomeAnd, is_some, unwrap_or}
use Rattle.std.specs.Ordering.{eq_by_cmp}
use Rattle.std.specs.Map.{remove_entry}
use Rattle.std.specs.BTreeMap.{insert_entry, is_at}
use Rattle.std.specs.FinMap as finite
use Rattle.tree.specs.Cells.{cell, IsTaken, taken, most, IsSet}
use Rattle.paths.specs.Paths.{Path, path_cmp}
use Rattle.schema.specs.Conf.{Conf}
use Rattle.entries.specs.Entries.{EntryContent}
use Rattle.tree.specs.Directories.{Entries, IsDirectory}
use Rattle.entries.specs.StoredEntries.{Entry, content_of, IsMade}
use Rattle.tree.specs.Trees.{Tree, Numbers, IsNumbered, number_at}
use Rattle.tree.specs.inner.Trees.{Cells, numbers_of, entries_in, AreNumbered, IsKept}
use Rattle.tree.proofs.Kept.{equal}
use Rattle.tree.proofs.Order.{path_total, path_exact}
use Rattle.tree.proofs.Numbered.{IsRising, IsFree, removed, rising_put, rising_remove, numbers_put, numbers_remove, numbers_len, entries_len, entries_put, entries_remove, numbered_put, numbered_remove, free_new, free_own, nothing_set}

-- this is kept, and is seen as these entries and numbers
pub record IsCarried (conf : Conf) (cells : Cells) (es : List (Path × ℕ)) (d : Entries) (m : Numbers) : Type 0 where
  pub kept : IsKept conf cells es
  pub entries : entries_in cells (numbers_of es) ≡ d
  pub numbers : numbers_of es ≡ m

pub carried : (conf : Conf) (cells : Cells) (es : List (Path × ℕ)) (d : Entries) (m : Numbers) → IsRising es → numbers_of es ≡ m → AreNumbered conf cells m → taken cells ≡ length es → entries_in cells m ≡ d → IsDirectory conf d → IsCarried conf cells es d m
carried conf cells es d m rising is numbered counted seen directory =
    let e : entries_in cells (numbers_of es) ≡ d = ap (entries_in cells) is ∙ seen in
    record {
      kept = record { sorted = rising; numbered = subst (AreNumbered conf cells) (sym is) numbered; counted = counted; directory = subst (IsDirectory conf) (sym e) directory };
      entries = e;
      numbers = is;
    }

some_and : {A : Type 0} (P : A → Type 0) (o : Option A) → IsSomeAnd o P → IsSome o
some_and P None h = absurd h
some_and P (Some a) h = refl

-- ---- the map of the numbers

same_cond : {A : Type 0} (b : Bool) (x y : A) → (b ≡ true → x ≡ y) → y ≡ cond b x y
same_cond true x y same = sym (same refl)
same_cond false x y same = refl

-- to put what is there
pub put_same : (m : Numbers) (p : Path) (n : ℕ) → finite.get m p ≡ Some n → m ≡ finite.insert m p n
put_same m p n is = finite.same_map path_total path_exact _ _ (λ q.
    same_cond (eq_by_cmp path_cmp q p) (Some n) (finite.get m q) (λ tie. sym is ∙ ap (λ (x : Path). finite.get m x) (sym (path_exact q p (equal (path_cmp q p) tie))))
    ∙ sym (finite.get-insert path_total m p n q))

swapped : {A : Type 0} (a b : Bool) (x y z : A) → (a ≡ true → b ≡ true → ⊥) → cond a x (cond b y z) ≡ cond b y (cond a x z)
swapped true true x y z apart = absurd (apart refl refl)
swapped true false x y z apart = refl
swapped false b x y z apart = refl

commuted : (m : Numbers) (from to : Path) (n : ℕ) → from ≢ to → finite.remove (finite.insert m to n) from ≡ finite.insert (finite.remove m from) to n
commuted m from to n apart = finite.same_map path_total path_exact _ _ (λ q.
    finite.get-remove path_total (finite.insert m to n) from q
    ∙ ap (cond (eq_by_cmp path_cmp q from) None) (finite.get-insert path_total m to n q)
    ∙ swapped (eq_by_cmp path_cmp q from) (eq_by_cmp path_cmp q to) None (Some n) (finite.get m q) (λ a b. apart (sym (path_exact q from (equal (path_cmp q from) a)) ∙ path_exact q to (equal (path_cmp q to) b)))
    ∙ ap (cond (eq_by_cmp path_cmp q to) (Some n)) (sym (finite.get-remove path_total m from q))
    ∙ sym (finite.get-insert path_total (finite.remove m from) to n q))

-- ---- the numbers of a tree

pub number_is : (d : Tree) (p : Path) (n : ℕ) → finite.get d.numbers p ≡ Some n → number_at d p ≡ n
number_is d p n is = ap (λ o. unwrap_or o d.next_number) is

pub is_none : {A : Type 0} (o : Option A) → is_some o ≡ false → o ≡ None
is_none None h = refl
is_none (Some a) h = cc

pub no_number : (d : Tree) → IsNumbered d.entries d.numbers → (p : Path) → finite.contains_key d.entries p ≡ false → finite.get d.numbers p ≡ None
no_number d are p new = is_none (finite.get d.numbers p) (are.there p ∙ new)

pub number_new : (d : Tree) → IsNumbered d.entries d.numbers → (p : Path) → finite.contains_key d.entries p ≡ false → number_at d p ≡ d.next_number
number_new d are p new = ap (λ o. unwrap_or o d.next_number) (no_number d are p new)

-- ---- how many there are

length_put : (es : List (Path × ℕ)) (k : Path) (n : ℕ) → IsRising es → finite.get (numbers_of es) k ≡ None → length (insert_entry path_cmp es k n) ≡ length es + 1
length_put es k n h new =
    sym (numbers_len (insert_entry path_cmp es k n) (rising_put es k n h))
    ∙ ap finite.len (numbers_put es k n h)
    ∙ finite.len-insert path_total (numbers_of es) k n
    ∙ ap (λ b. cond b (finite.len (numbers_of es)) (finite.len (numbers_of es) + 1)) (ap is_some new)
    ∙ ap (λ x. x + 1) (numbers_len es h)

length_remove : (es : List (Path × ℕ)) (k : Path) (n : ℕ) → IsRising es → finite.get (numbers_of es) k ≡ Some n → length (remove_entry (is_at (path_cmp k)) es) ≡ length es - 1
length_remove es k n h there =
    sym (numbers_len (remove_entry (is_at (path_cmp k)) es) (rising_remove es k h))
    ∙ ap finite.len (numbers_remove es k h)
    ∙ finite.len-remove path_total (numbers_of es) k
    ∙ ap (λ b. cond b (finite.len (numbers_of es) - 1) (finite.len (numbers_of es))) (ap is_some there)
    ∙ ap (λ x. x - 1) (numbers_len es h)

-- ---- each change

module _ (conf : Conf) (cells : Cells) (next : ℕ) (es : List (Path × ℕ)) (kept : IsKept conf cells es) where
  abbrev m : Numbers
  m = numbers_of es

  abbrev whole : Tree
  whole = record { conf = conf; entries = entries_in cells m; numbers = m; next_number = next }

  pub cell_there : (d : Tree) → whole ≡ d → (p : Path) (n : ℕ) → finite.get d.numbers p ≡ Some n → IsTaken cells n
  cell_there d is p n there = some_and _ (cell cells n) (kept.numbered.filled p n (ap (λ (x : Tree). finite.get x.numbers p) is ∙ there))

  -- where a new entry leaves a directory, its cell has a number
  pub cell_left : (d : Tree) → whole ≡ d → (p : Path) (e : EntryContent) → finite.contains_key d.entries p ≡ false → IsDirectory d.conf (finite.insert d.entries p e) → taken cells < most
  cell_left d is p e new directory =
      let len_is : finite.len d.entries ≡ length es = ap (λ (x : Tree). finite.len x.entries) (sym is) ∙ entries_len cells m ∙ numbers_len es kept.sorted in
      let more : finite.len (finite.insert d.entries p e) ≡ finite.len d.entries + 1 = finite.len-insert path_total d.entries p e ∙ ap (λ b. cond b (finite.len d.entries) (finite.len d.entries + 1)) new in
      omega (arith, kept.counted, len_is, more, directory.few)

  -- an entry in the next cell, where none was
  pub new_done : (after : Cells) (p : Path) (n : ℕ) (e : Entry) → cell cells n ≡ None → IsSet cells after n (Some e) → taken after ≡ taken cells + 1
      → (es' : List (Path × ℕ)) → es' ≡ insert_entry path_cmp es p n
      → (d : Tree) → whole ≡ d → finite.get d.numbers p ≡ None → IsMade d.conf.types e.attrs → IsDirectory d.conf (finite.insert d.entries p (content_of e))
      → IsCarried conf after es' (finite.insert d.entries p (content_of e)) (finite.insert d.numbers p n)
  new_done after p n e vacant sets more es' come d is new made directory = subst
      (λ (x : Tree). finite.get x.numbers p ≡ None → IsMade x.conf.types e.attrs → IsDirectory x.conf (finite.insert x.entries p (content_of e)) → IsCarried conf after es' (finite.insert x.entries p (content_of e)) (finite.insert x.numbers p n))
      is
      (λ new made directory.
      let free : IsFree m p n = free_new conf cells m kept.numbered p n vacant in
      carried conf after es' _ _
      (subst IsRising (sym come) (rising_put es p n kept.sorted))
      (ap numbers_of come ∙ numbers_put es p n kept.sorted)
      (numbered_put cells after m p n free conf kept.numbered e sets made)
      (more ∙ ap (λ k. k + 1) kept.counted ∙ sym (ap length come ∙ length_put es p n kept.sorted new))
      (entries_put cells after m p n free e sets)
      directory)
      new made directory

  -- another one in the cell of an entry
  pub over_done : (after : Cells) (p : Path) (n : ℕ) (e : Entry) → IsSet cells after n (Some e) → taken after ≡ taken cells
      → (d : Tree) → whole ≡ d → finite.get d.numbers p ≡ Some n → IsMade d.conf.types e.attrs → IsDirectory d.conf (finite.insert d.entries p (content_of e))
      → IsCarried conf after es (finite.insert d.entries p (content_of e)) (finite.insert d.numbers p n)
  over_done after p n e sets same d is there made directory = subst
      (λ (x : Tree). finite.get x.numbers p ≡ Some n → IsMade x.conf.types e.attrs → IsDirectory x.conf (finite.insert x.entries p (content_of e)) → IsCarried conf after es (finite.insert x.entries p (content_of e)) (finite.insert x.numbers p n))
      is
      (λ there made directory.
      let free : IsFree m p n = free_own conf cells m kept.numbered p n there in
      carried conf after es _ _
      kept.sorted
      (put_same m p n there)
      (numbered_put cells after m p n free conf kept.numbered e sets made)
      (same ∙ kept.counted)
      (entries_put cells after m p n free e sets)
      directory)
      there made directory

  -- none there
  pub take_done : (after : Cells) (p : Path) (n : ℕ) → IsSet cells after n None → taken after + 1 ≡ taken cells
      → (es' : List (Path × ℕ)) → es' ≡ remove_entry (is_at (path_cmp p)) es
      → (d : Tree) → whole ≡ d → finite.get d.numbers p ≡ Some n → IsDirectory d.conf (finite.remove d.entries p)
      → IsCarried conf after es' (finite.remove d.entries p) (finite.remove d.numbers p)
  take_done after p n sets fewer es' go d is there directory = subst
      (λ (x : Tree). finite.get x.numbers p ≡ Some n → IsDirectory x.conf (finite.remove x.entries p) → IsCarried conf after es' (finite.remove x.entries p) (finite.remove x.numbers p))
      is
      (λ there directory.
      let free : IsFree m p n = free_own conf cells m kept.numbered p n there in
      let length_is : length es' ≡ length es - 1 = ap length go ∙ length_remove es p n kept.sorted there in
      carried conf after es' _ _
      (subst IsRising (sym go) (rising_remove es p kept.sorted))
      (ap numbers_of go ∙ numbers_remove es p kept.sorted)
      (numbered_remove cells after m p n free conf kept.numbered None sets)
      (omega (arith, fewer, kept.counted, length_is))
      (entries_remove cells after m p n free None sets)
      directory)
      there directory

  -- another one in the cell of an entry, and at another path
  pub move_done : (after : Cells) (from to : Path) (n : ℕ) (e : Entry) → IsSet cells after n (Some e) → taken after ≡ taken cells
      → (es1 es2 : List (Path × ℕ)) → es1 ≡ insert_entry path_cmp es to n → es2 ≡ remove_entry (is_at (path_cmp from)) es1
      → (d : Tree) → whole ≡ d → finite.get d.numbers from ≡ Some n → finite.get d.numbers to ≡ None → IsMade d.conf.types e.attrs → IsDirectory d.conf (finite.insert (finite.remove d.entries from) to (content_of e))
      → IsCarried conf after es2 (finite.insert (finite.remove d.entries from) to (content_of e)) (finite.insert (finite.remove d.numbers from) to n)
  move_done after from to n e sets same es1 es2 come go d is there new made directory = subst
      (λ (x : Tree). finite.get x.numbers from ≡ Some n → finite.get x.numbers to ≡ None → IsMade x.conf.types e.attrs → IsDirectory x.conf (finite.insert (finite.remove x.entries from) to (content_of e))
      → IsCarried conf after es2 (finite.insert (finite.remove x.entries from) to (content_of e)) (finite.insert (finite.remove x.numbers from) to n))
      is
      (λ there new made directory.
      let free : IsFree m from n = free_own conf cells m kept.numbered from n there in
      let left : Numbers = finite.remove m from in
      let free_left : IsFree left to n = λ q j _ at. let g = removed m from q j at in free q j g.0 g.1 in
      let apart : from ≢ to = λ same. (let b : Some n ≡ None = sym there ∙ ap (λ (x : Path). finite.get m x) same ∙ new in cc) in
      let rising : IsRising es1 = subst IsRising (sym come) (rising_put es to n kept.sorted) in
      let seen : numbers_of es1 ≡ finite.insert m to n = ap numbers_of come ∙ numbers_put es to n kept.sorted in
      let longer : length es1 ≡ length es + 1 = ap length come ∙ length_put es to n kept.sorted new in
      let shorter : length es2 ≡ length es1 - 1 = ap length go ∙ length_remove es1 from n rising (
      ap (λ x. finite.get x from) seen ∙ finite.get-insert path_total m to n from ∙ not_there (eq_by_cmp path_cmp from to) (λ tie. apart (path_exact from to (equal (path_cmp from to) tie))) (finite.get m from) ∙ there) in
      carried conf after es2 _ _
      (subst IsRising (sym go) (rising_remove es1 from rising))
      (ap numbers_of go ∙ numbers_remove es1 from rising ∙ ap (λ x. finite.remove x from) seen ∙ commuted m from to n apart)
      (numbered_put cells after left to n free_left conf (numbered_remove cells cells m from n free conf kept.numbered (cell cells n) (nothing_set cells n)) e sets made)
      (omega (arith, same, kept.counted, longer, shorter))
      (entries_put cells after left to n free_left e sets ∙ ap (λ (x : Entries). finite.insert x to (content_of e)) (entries_remove cells cells m from n free (cell cells n) (nothing_set cells n)))
      directory)
      there new made directory
    where
      not_there : (b : Bool) → (b ≡ true → ⊥) → (o : Option ℕ) → cond b (Some n) o ≡ o
      not_there true apart o = absurd (apart refl)
      not_there false apart o = refl
