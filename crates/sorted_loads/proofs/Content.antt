-- What content records do to a directory: they add entries.
use Rattle.std.proofs.Common.{◌≡◌, ℕ, Bool, true, false, cond, not, ◌&&◌, List, [], ◌∷◌, Some, codes, refl, sym, ap, ◌∙◌}
use Rattle.std.specs.Prelude.{is_some, nat_le, Result, Ok, Err, ⊤}
use Rattle.std.specs.Cmp.{IsTotalOrder}
use Rattle.std.specs.FinMap as finite
use Rattle.std.specs.Ordering.{eq_by_cmp, is_eq}
use Rattle.std.specs.Str.{bytes_eq}
use Rattle.std.proofs.lemmas.Cmp.{tied_itself}
use Rattle.base.specs.Answers.{◌>>=◌, each}
use Rattle.ldif.specs.Attrs.{Attr}
use Rattle.ldif.specs.Line.{value_line, same_name}
use Rattle.ldif.specs.Reading.{content_line, body, entry, after_version, first_of_text, reading}
use Rattle.ldif.specs.declared.fault.LdifFaultKind.{LdifFaultKind}
use Rattle.ldif.specs.declared.fault.LdifFaultKind.TheVariants.{DnMissing, Version}
use Rattle.ldif.specs.declared.record.Mode.TheVariants.{Content}
use Rattle.ldif.specs.declared.record.Record.{Record}
use Rattle.ldif.specs.declared.record.Record.TheVariants as records
use Rattle.paths.specs.Paths.{Path, path_cmp, parent_of, is_root}
use Rattle.schema.specs.declared.code.Code.{Code}
use Rattle.schema.specs.declared.code.Code.TheVariants.{EntryAlreadyExists, NoSuchObject, ObjectClassViolation, ConstraintViolation, AdminLimitExceeded}
use Rattle.schema.specs.Rdns.{TypedRdn}
use Rattle.schema.specs.Conf.{Conf, located, path_of, own_rdn}
use Rattle.entries.specs.Entries.{EntryContent, Attributes, add_lines, has_its_classes, are_single}
use Rattle.tree.specs.Directories.{Entries}
use Rattle.tree.specs.Changes.{Change, Put, changed}
use Rattle.tree.specs.Adds.{with_entry, entry_of, add_at, add_there, add}
use Rattle.tree.specs.Operations.{apply, path_in}
use Rattle.databases.specs.Runs.{is_empty, of_change, outcome}

abbrev pub Answer : Type 0
Answer = Result Record LdifFaultKind

-- ---- what lines read as

-- no change
abbrev pub IsContent : Answer → Type 0
IsContent (Ok records.Empty) = ⊤
IsContent (Ok (records.Content dn attrs)) = ⊤
IsContent (Ok (records.Add dn controls attrs)) = ⊥
IsContent (Ok (records.Delete dn controls)) = ⊥
IsContent (Ok (records.Modify dn controls mods)) = ⊥
IsContent (Ok (records.ModRdn dn controls newrdn delete_old new_superior)) = ⊥
IsContent (Err fault) = ⊤

entry_content : (ls : List (List ℕ)) → IsContent (entry Content ls)
unfolding entry body
entry_content [] = tt
entry_content (l ∷ ls) = by (value_line l)
  where
    attrs_of : (dn : List ℕ) (r : Result (List Attr) LdifFaultKind) → IsContent (r >>= λ attrs. Ok (records.Content dn attrs))
    attrs_of dn (Ok attrs) = tt
    attrs_of dn (Err fault) = tt

    named : (t : Bool) (dn : List ℕ) → IsContent (cond t (each content_line ls >>= λ attrs. Ok (records.Content dn attrs)) (Err DnMissing))
    named true dn = attrs_of dn (each content_line ls)
    named false dn = tt

    by : (r : Result Attr LdifFaultKind) → IsContent (r >>= λ attr. cond (same_name attr.name (codes "dn")) (each content_line ls >>= λ attrs. Ok (records.Content attr.value attrs)) (Err DnMissing))
    by (Ok attr) = named (same_name attr.name (codes "dn")) attr.value
    by (Err fault) = tt

after_content : (ls : List (List ℕ)) → IsContent (after_version Content ls)
unfolding after_version
after_content [] = tt
after_content (l ∷ ls) = entry_content (l ∷ ls)

first_content : (ls : List (List ℕ)) → IsContent (first_of_text Content ls)
unfolding first_of_text
first_content [] = tt
first_content (l ∷ ls) = by (value_line l)
  where
    named : (t u : Bool) → IsContent (cond t (cond u (after_version Content ls) (Err Version)) (entry Content (l ∷ ls)))
    named true true = after_content ls
    named true false = tt
    named false u = entry_content (l ∷ ls)

    by : (r : Result Attr LdifFaultKind) → IsContent (r >>= λ attr. cond (same_name attr.name (codes "version")) (cond (bytes_eq attr.value (codes "1")) (after_version Content ls) (Err Version)) (entry Content (l ∷ ls)))
    by (Ok attr) = named (same_name attr.name (codes "version")) (bytes_eq attr.value (codes "1"))
    by (Err fault) = tt

pub is_content : (first : Bool) (ls : List (List ℕ)) → IsContent (reading Content first ls)
is_content true ls = first_content ls
is_content false ls = entry_content ls

-- ---- what an add comes to

record IsPut (conf : Conf) (dn : List ℕ) (c : Change) : Type 0 where
  path : Path
  entry : EntryContent
  is : c ≡ Put path entry
  located_at : path_in conf (located conf dn) ≡ Some path

whole_put : (conf : Conf) (d : Entries) (p : Path) (e : EntryContent) (c : Change) → with_entry conf d p e ≡ Ok c → c ≡ Put p e
whole_put conf d p e c h = by (not (has_its_classes conf e.attrs)) (not (are_single conf.types e.attrs)) (nat_le 4294967295 (finite.len d)) h
  where
    by : (t u v : Bool) → cond t (Err ObjectClassViolation) (cond u (Err ConstraintViolation) (cond v (Err AdminLimitExceeded) (Ok (Put p e)))) ≡ Ok c → c ≡ Put p e
    by true u v g = cc
    by false true v g = cc
    by false false true g = cc
    by false false false g = cc

record SomePut (p : Path) (c : Change) : Type 0 where
  entry : EntryContent
  is : c ≡ Put p entry

at_put : (conf : Conf) (d : Entries) (p : Path) (rdn : TypedRdn) (ls : List Attr) (c : Change) → add_at conf Content d p rdn ls ≡ Ok c → SomePut p c
unfolding add_at
at_put conf d p rdn ls c h = by (finite.contains_key d p) (not (is_root p) && not (finite.contains_key d (parent_of p))) (add_lines Content conf.types [] ls) h
  where
    by : (t u : Bool) (r : Result Attributes Code)
        → cond t (Err EntryAlreadyExists) (cond u (Err NoSuchObject) (r >>= λ attrs. with_entry conf d p (entry_of conf rdn attrs))) ≡ Ok c → SomePut p c
    by true u r g = absurd (cc)
    by false true r g = absurd (cc)
    by false false (Err code) g = absurd (cc)
    by false false (Ok attrs) g = record { entry = entry_of conf rdn attrs; is = whole_put conf d p (entry_of conf rdn attrs) c g }

add_put : (conf : Conf) (d : Entries) (dn : List ℕ) (ls : List Attr) (c : Change) → add conf Content d dn ls ≡ Ok c → IsPut conf dn c
unfolding add
add_put conf d dn ls c h = by (located conf dn) refl h
  where
    by : (r : Result (List TypedRdn) Code) → located conf dn ≡ r → (r >>= λ rs. add_there conf Content d (path_of conf rs) rs ls) ≡ Ok c → IsPut conf dn c
    by (Ok rs) e g =
        let s = at_put conf d (path_of conf rs) (own_rdn conf rs) ls c g in
        record { path = path_of conf rs; entry = s.entry; is = s.is; located_at = ap (path_in conf) e }
    by (Err code) e g = absurd (cc)

-- ---- entries stay, and come

module _ (total : IsTotalOrder path_cmp) where
  put_there : (d : Entries) (p : Path) (e : EntryContent) → finite.contains_key (finite.insert d p e) p ≡ true
  put_there d p e = ap is_some (finite.get-insert total d p e p ∙ ap (λ o. cond (is_eq o) (Some e) (finite.get d p)) (tied_itself total p))

  stays_there : (d : Entries) (p q : Path) (e : EntryContent) → finite.contains_key d q ≡ true → finite.contains_key (finite.insert d p e) q ≡ true
  stays_there d p q e h = ap is_some (finite.get-insert total d p e q) ∙ by (eq_by_cmp path_cmp q p)
    where
      by : (t : Bool) → is_some (cond t (Some e) (finite.get d q)) ≡ true
      by true = refl
      by false = h

  -- a content record that is accepted puts its entry there
  pub puts_it : (conf : Conf) (d next : Entries) (dn : List ℕ) (ls : List Attr) (p : Path) → apply conf Content d (records.Content dn ls) ≡ Ok next → path_in conf (located conf dn) ≡ Some p
      → finite.contains_key next p ≡ true
  puts_it conf d next dn ls p h at = by (add conf Content d dn ls) refl h
    where
      by : (r : Result Change Code) → add conf Content d dn ls ≡ r → (r >>= λ c. Ok (changed d c)) ≡ Ok next → finite.contains_key next p ≡ true
      by (Err code) e g = absurd (cc)
      by (Ok c) e g =
          let s = add_put conf d dn ls c e in
          let same : s.path ≡ p = let both : Some s.path ≡ Some p = sym s.located_at ∙ at in cc in
          let is : next ≡ finite.insert d p s.entry = let n : next ≡ changed d c = cc in n ∙ ap (changed d) s.is ∙ ap (λ (q : Path). finite.insert d q s.entry) same in
          ap (λ (m : Entries). finite.contains_key m p) is ∙ put_there d p s.entry

  -- and no record takes one away
  keeps_all : (conf : Conf) (d next : Entries) (r : Record) (q : Path) → IsContent (Ok r) → apply conf Content d r ≡ Ok next → finite.contains_key d q ≡ true → finite.contains_key next q ≡ true
  keeps_all conf d next records.Empty q c h there = ap (λ (m : Entries). finite.contains_key m q) (let n : next ≡ d = cc in n) ∙ there
  keeps_all conf d next (records.Content dn ls) q c h there = by (add conf Content d dn ls) refl h
    where
      by : (x : Result Change Code) → add conf Content d dn ls ≡ x → (x >>= λ y. Ok (changed d y)) ≡ Ok next → finite.contains_key next q ≡ true
      by (Err code) e g = absurd (cc)
      by (Ok y) e g =
          let s = add_put conf d dn ls y e in
          let is : next ≡ finite.insert d s.path s.entry = let n : next ≡ changed d y = cc in n ∙ ap (changed d) s.is in
          ap (λ (m : Entries). finite.contains_key m q) is ∙ stays_there d s.path q s.entry there
  keeps_all conf d next (records.Add dn controls ls) q c h there = absurd c
  keeps_all conf d next (records.Delete dn controls) q c h there = absurd c
  keeps_all conf d next (records.Modify dn controls mods) q c h there = absurd c
  keeps_all conf d next (records.ModRdn dn controls newrdn delete_old new_superior) q c h there = absurd c

  pub outcome_keeps : (conf : Conf) (d : Entries) (read : Answer) (q : Path) → IsContent read → finite.contains_key d q ≡ true → finite.contains_key (outcome conf Content d read).0 q ≡ true
  unfolding outcome
  outcome_keeps conf d (Err fault) q c there = there
  outcome_keeps conf d (Ok r) q c there = by (apply conf Content d r) refl
    where
      by : (x : Result Entries Code) → apply conf Content d r ≡ x → finite.contains_key (of_change d (is_empty r) x).0 q ≡ true
      by (Err code) e = there
      by (Ok next) e = keeps_all conf d next r q c e there

-- ---- the check for the parent

pub refused_for_parent : (conf : Conf) (d : Entries) (dn : List ℕ) (ls : List Attr) (p : Path) → path_in conf (located conf dn) ≡ Some p → finite.contains_key d p ≡ false → is_root p ≡ false
    → finite.contains_key d (parent_of p) ≡ false → apply conf Content d (records.Content dn ls) ≡ Err NoSuchObject
unfolding add add_at
refused_for_parent conf d dn ls p at new below missing = by (located conf dn) at
  where
    at_path : (rdn : TypedRdn) (rest : Result Change Code) → cond (finite.contains_key d p) (Err EntryAlreadyExists) (cond (not (is_root p) && not (finite.contains_key d (parent_of p))) (Err NoSuchObject) rest) ≡ Err NoSuchObject
    at_path rdn rest =
        ap (λ (t : Bool). cond t (Err EntryAlreadyExists) (cond (not (is_root p) && not (finite.contains_key d (parent_of p))) (Err NoSuchObject) rest)) new
        ∙ (λ i. cond (not (below i) && not (missing i)) (Err NoSuchObject) rest)

    by : (r : Result (List TypedRdn) Code) → path_in conf r ≡ Some p → ((r >>= λ rs. add_there conf Content d (path_of conf rs) rs ls) >>= λ c. Ok (changed d c)) ≡ Err NoSuchObject
    by (Ok rs) e =
        let same : path_of conf rs ≡ p = cc in
        ap (λ (q : Path). add_at conf Content d q (own_rdn conf rs) ls >>= λ c. Ok (changed d c)) same
        ∙ ap (λ (x : Result Change Code). x >>= λ c. Ok (changed d c)) (at_path (own_rdn conf rs) (add_lines Content conf.types [] ls >>= λ attrs. with_entry conf d p (entry_of conf (own_rdn conf rs) attrs)))
    by (Err code) e = absurd (cc)
