-- The names of records as they read, and in which order they are.
use Rattle.std.proofs.Common.{◌≡◌, ℕ, ◌≤◌, zero, suc, Bool, true, false, cond, List, [], ◌∷◌, ◌++◌, map, length, Option, Some, None, codes, refl, sym, ap, subst, ◌∙◌, arith, inl, inr}
use Rattle.std.specs.Prelude.{◌⊎◌, ⊤, Result, Ok, Err, slice_index_or}
use Rattle.std.specs.List.{flat_map, AllByRecursion}
use Rattle.std.specs.Str.{bytes_eq}
use Rattle.std.specs.Cmp.Lexicographic.{bytes_decides}
use Rattle.base.specs.Answers.{◌>>=◌, each}
use Rattle.ldif_lines.specs.Records.{RawRecord, records}
use Rattle.ldif_lines.specs.Folding.{raw_lines, raw_block, with_first_flag}
use Rattle.ldif.specs.Attrs.{Attr}
use Rattle.ldif.specs.Line.{value_line, same_name, lower}
use Rattle.ldif.specs.Reading.{content_line, body, entry, after_version, first_of_text, reading}
use Rattle.ldif.specs.declared.fault.LdifFaultKind.{LdifFaultKind}
use Rattle.ldif.specs.declared.fault.LdifFaultKind.TheVariants.{DnMissing, Version}
use Rattle.ldif.specs.declared.record.Mode.TheVariants.{Content}
use Rattle.ldif.specs.declared.record.Record.{Record}
use Rattle.ldif.specs.declared.record.Record.TheVariants as records_of
use Rattle.sorting.specs.NormalNames.{name_of_record, name_read, name_of_first, name_of_stanza}
use Rattle.sorting.specs.Orders.{is_above, AreInOrder}
use Rattle.sorting.specs.Reads.{record_lines, StandBehind}
use Rattle.sorting.specs.Sorted.{names_of, in_turn, sorted_stanzas}
use Rattle.sorting.specs.Turns.{turns}
use Rattle.sorting.specs.declared.normal_names.NormalName.{NormalName}
use Rattle.sorting.specs.declared.turns.Turn.{Turn}
use Rattle.sorting.proofs.Contents.{Lines, records_are, flagged_are}
use Rattle.sorting.proofs.InTurn.{Names}

abbrev pub name_of_lines : Bool → Lines → Option NormalName
name_of_lines first ls = name_of_record (reading Content first ls)

abbrev Answer : Type 0
Answer = Result Record LdifFaultKind

-- ---- a version

abbrev with_dn : Lines → Attr → Answer
with_dn ls attr = cond (same_name attr.name (codes "dn")) (body Content attr.value ls) (Err DnMissing)

no_content : (dn : List ℕ) (r : Result (List Attr) LdifFaultKind) → (r >>= λ attrs. Ok (records_of.Content dn attrs)) ≡ Ok records_of.Empty → ⊥
no_content dn (Ok attrs) h = cc
no_content dn (Err fault) h = cc

no_body : (t : Bool) (dn : List ℕ) (ls : Lines) → cond t (body Content dn ls) (Err DnMissing) ≡ Ok records_of.Empty → ⊥
unfolding body
no_body true dn ls h = no_content dn (each content_line ls) h
no_body false dn ls h = cc

never_empty : (ls : Lines) → entry Content ls ≡ Ok records_of.Empty → ⊥
unfolding entry
never_empty [] h = cc
never_empty (l ∷ ls) h = by (value_line l) h
  where
    by : (r : Result Attr LdifFaultKind) → (r >>= with_dn ls) ≡ Ok records_of.Empty → ⊥
    by (Ok attr) g = no_body (same_name attr.name (codes "dn")) attr.value ls g
    by (Err fault) g = cc

both_names : (name : List ℕ) → same_name name (codes "version") ≡ true → same_name name (codes "dn") ≡ true → ⊥
both_names name v d =
    let other : lower (codes "version") ≡ lower (codes "dn") = sym ((bytes_decides (lower name) (lower (codes "version"))).0 v) ∙ (bytes_decides (lower name) (lower (codes "dn"))).0 d in
    let no : false ≡ true = (bytes_decides (lower (codes "version")) (lower (codes "dn"))).1 other in cc

-- a record that isn't the text's first has the name that it would have there, or none
pub or_none : (ls : Lines) → (name_of_lines false ls ≡ None) ⊎ (name_of_lines false ls ≡ name_of_lines true ls)
unfolding entry first_of_text
or_none [] = inl refl
or_none (l ∷ ls) = by (value_line l)
  where
    by : (r : Result Attr LdifFaultKind)
        → (name_of_record (r >>= with_dn ls) ≡ None)
        ⊎ (name_of_record (r >>= with_dn ls) ≡ name_of_record (r >>= λ attr. cond (same_name attr.name (codes "version")) (cond (bytes_eq attr.value (codes "1")) (after_version Content ls) (Err Version)) (r >>= with_dn ls)))
    by (Err fault) = inl refl
    by (Ok attr) = versioned (same_name attr.name (codes "version")) refl (same_name attr.name (codes "dn")) refl
      where
        versioned : (v : Bool) → same_name attr.name (codes "version") ≡ v → (d : Bool) → same_name attr.name (codes "dn") ≡ d
            → (name_of_record (cond d (body Content attr.value ls) (Err DnMissing)) ≡ None)
            ⊎ (name_of_record (cond d (body Content attr.value ls) (Err DnMissing)) ≡ name_of_record (cond v (cond (bytes_eq attr.value (codes "1")) (after_version Content ls) (Err Version)) (cond d (body Content attr.value ls) (Err DnMissing))))
        versioned v e false g = inl refl
        versioned false e true g = inr refl
        versioned true e true g = absurd (both_names attr.name e g)

-- behind a version a record has the name that it has without
pub behind_version : (v : List ℕ) (ls : Lines) → reading Content true (v ∷ []) ≡ Ok records_of.Empty → name_of_lines true (v ∷ ls) ≡ name_of_lines false ls
unfolding entry first_of_text after_version
behind_version v ls h = by (value_line v) h
  where
    after : (more : Lines) → name_of_record (after_version Content more) ≡ name_of_record (entry Content more)
    after [] = refl
    after (l ∷ more) = refl

    tested : (ver one : Bool) (attr : Attr) → cond ver (cond one (Ok records_of.Empty) (Err Version)) (with_dn [] attr) ≡ Ok records_of.Empty
        → name_of_record (cond ver (cond one (after_version Content ls) (Err Version)) (with_dn ls attr)) ≡ name_of_record (entry Content ls)
    tested true true attr g = after ls
    tested true false attr g = absurd (cc)
    tested false one attr g = absurd (no_body (same_name attr.name (codes "dn")) attr.value [] g)

    by : (r : Result Attr LdifFaultKind)
        → (r >>= λ attr. cond (same_name attr.name (codes "version")) (cond (bytes_eq attr.value (codes "1")) (Ok records_of.Empty) (Err Version)) (r >>= with_dn [])) ≡ Ok records_of.Empty
        → name_of_record (r >>= λ attr. cond (same_name attr.name (codes "version")) (cond (bytes_eq attr.value (codes "1")) (after_version Content ls) (Err Version)) (r >>= with_dn ls)) ≡ name_of_record (entry Content ls)
    by (Ok attr) g = tested (same_name attr.name (codes "version")) (bytes_eq attr.value (codes "1")) attr g
    by (Err fault) g = absurd (cc)

-- it is a line by itself
pub one_line : (l : List ℕ) (ls : Lines) → reading Content true (l ∷ ls) ≡ Ok records_of.Empty → ls ≡ []
unfolding entry first_of_text after_version
one_line l [] h = refl
one_line l (m ∷ ls) h = absurd (by (value_line l) h)
  where
    tested : (ver one : Bool) (attr : Attr) → cond ver (cond one (entry Content (m ∷ ls)) (Err Version)) (with_dn (m ∷ ls) attr) ≡ Ok records_of.Empty → ⊥
    tested true true attr g = never_empty (m ∷ ls) g
    tested true false attr g = cc
    tested false one attr g = no_body (same_name attr.name (codes "dn")) attr.value (m ∷ ls) g

    by : (r : Result Attr LdifFaultKind)
        → (r >>= λ attr. cond (same_name attr.name (codes "version")) (cond (bytes_eq attr.value (codes "1")) (entry Content (m ∷ ls)) (Err Version)) (r >>= with_dn (m ∷ ls))) ≡ Ok records_of.Empty → ⊥
    by (Ok attr) g = tested (same_name attr.name (codes "version")) (bytes_eq attr.value (codes "1")) attr g
    by (Err fault) g = cc

-- ---- fewer names in order

none_above_none : (name : Option NormalName) → is_above name None ≡ false
none_above_none None = refl
none_above_none (Some name) = refl

-- each is none, or the other one
abbrev Fewer : Names → Names → Type 0
Fewer [] [] = ⊤
Fewer [] (y ∷ ys) = ⊥
Fewer (x ∷ xs) [] = ⊥
Fewer (x ∷ xs) (y ∷ ys) = ((x ≡ None) ⊎ (x ≡ y)) × Fewer xs ys

not_above : (x y l m : Option NormalName) → (x ≡ None) ⊎ (x ≡ y) → (l ≡ None) ⊎ (l ≡ m) → is_above m y ≡ false → is_above l x ≡ false
not_above x y l m a (inl e) h = ap (λ (n : Option NormalName). is_above n x) e
not_above x y l m (inl g) (inr e) h = ap (λ (n : Option NormalName). is_above l n) g ∙ none_above_none l
not_above x y l m (inr g) (inr e) h = (λ i. is_above (e i) (g i)) ∙ h

all_not_above : (x y : Option NormalName) → (x ≡ None) ⊎ (x ≡ y) → (xs ys : Names) → Fewer xs ys → AllByRecursion (λ later. is_above later y ≡ false) ys → AllByRecursion (λ later. is_above later x ≡ false) xs
all_not_above x y a [] ys f h = tt
all_not_above x y a (l ∷ ls) [] f h = absurd f
all_not_above x y a (l ∷ ls) (m ∷ ms) f h = (not_above x y l m a f.0 h.0, all_not_above x y a ls ms f.1 h.1)

fewer_in_order : (xs ys : Names) → Fewer xs ys → AreInOrder ys → AreInOrder xs
fewer_in_order [] ys f h = tt
fewer_in_order (x ∷ xs) [] f h = absurd f
fewer_in_order (x ∷ xs) (y ∷ ys) f h = (all_not_above x y f.0 xs ys f.1 h.0, fewer_in_order xs ys f.1 h.1)

none_first : (xs : Names) → AreInOrder xs → AreInOrder (None ∷ xs)
none_first xs h = (by xs, h)
  where
    by : (ys : Names) → AllByRecursion (λ later. is_above later None ≡ false) ys
    by [] = tt
    by (y ∷ ys) = (none_above_none y, by ys)

-- ---- records of stanzas

abbrev names_from : Bool → List Lines → Names
names_from first [] = []
names_from first (ls ∷ more) = name_of_lines first ls ∷ names_from false more

abbrev as_first : List Lines → Names
as_first parts = map (name_of_lines true) parts

fewer_names : (first : Bool) (parts : List Lines) → Fewer (names_from first parts) (as_first parts)
fewer_names first [] = tt
fewer_names true (ls ∷ more) = (inr refl, fewer_names false more)
fewer_names false (ls ∷ more) = (or_none ls, fewer_names false more)

behind_head : (head : List ℕ) (found parts : List Lines) → StandBehind head found parts → AreInOrder (as_first parts) → AreInOrder (names_from true found)
behind_head [] found parts h order = subst (λ (x : List Lines). AreInOrder (names_from true x)) (sym h) (fewer_in_order (names_from true parts) (as_first parts) (fewer_names true parts) order)
behind_head (b ∷ bs) found parts h order = by h.2
  where
    rest : AreInOrder (names_from false parts)
    rest = fewer_in_order (names_from false parts) (as_first parts) (fewer_names false parts) order

    by : ((found ≡ (h.0 ∷ []) ∷ parts) ⊎ ((first : Lines) × (more : List Lines) × (parts ≡ first ∷ more) × (found ≡ (h.0 ∷ first) ∷ more))) → AreInOrder (names_from true found)
    by (inl e) =
        subst (λ (x : List Lines). AreInOrder (names_from true x)) (sym e)
        (subst (λ (n : Option NormalName). AreInOrder (n ∷ names_from false parts)) (sym (ap name_of_record h.1)) (none_first (names_from false parts) rest))
    by (inr g) =
        subst (λ (x : List Lines). AreInOrder (names_from true x)) (sym g.3)
        (subst (λ (n : Option NormalName). AreInOrder (n ∷ names_from false g.1)) (sym (behind_version h.0 g.0 h.1))
        (subst (λ (x : List Lines). AreInOrder (names_from false x)) g.2 rest))

-- one record each at most
abbrev pub AreFew : Lines → Type 0
AreFew ps = AllByRecursion (λ stanza. length (record_lines stanza) ≤ 1) ps

-- a stanza with one record at most has its name
data One (stanza : List ℕ) : Type 0 where
  none : record_lines stanza ≡ [] → One stanza
  one : (ls : Lines) → record_lines stanza ≡ ls ∷ [] → name_of_stanza stanza ≡ name_of_lines true ls → One stanza

abbrev first_flag : List (Bool × Lines) → Bool
first_flag [] = true
first_flag (b ∷ bs) = b.0

one_of : (stanza : List ℕ) → length (record_lines stanza) ≤ 1 → One stanza
unfolding name_of_stanza with_first_flag
one_of stanza few = by (records stanza) refl few (flagged_are stanza ∙ ap (with_first_flag true) (sym (records_are stanza)))
  where
    by : (rs : List RawRecord) → records stanza ≡ rs → length (map raw_lines rs) ≤ 1 → map raw_block rs ≡ with_first_flag true (map raw_lines rs) → One stanza
    by [] e le flags = none (ap (map raw_lines) e)
    by (r ∷ []) e le flags =
        let is : r.first ≡ true = ap first_flag flags in
        one r.lines (ap (map raw_lines) e) (ap name_of_first e ∙ ap (λ (first : Bool). name_of_lines first r.lines) is)
    by (r ∷ q ∷ rs) e le flags = absurd (omega (arith, le))

none_there : (name : Option NormalName) (ps : Lines) → AreFew ps
    → AllByRecursion (λ later. is_above later name ≡ false) (names_of ps) → AllByRecursion (λ later. is_above later name ≡ false) (as_first (flat_map record_lines ps))
none_there name [] few h = tt
none_there name (p ∷ ps) few h = by (one_of p few.0) (none_there name ps few.1 h.1)
  where
    by : One p → AllByRecursion (λ later. is_above later name ≡ false) (as_first (flat_map record_lines ps)) → AllByRecursion (λ later. is_above later name ≡ false) (as_first (record_lines p ++ flat_map record_lines ps))
    by (none e) rest = subst (λ (x : List Lines). AllByRecursion (λ later. is_above later name ≡ false) (as_first (x ++ flat_map record_lines ps))) (sym e) rest
    by (one ls e is) rest =
        subst (λ (x : List Lines). AllByRecursion (λ later. is_above later name ≡ false) (as_first (x ++ flat_map record_lines ps))) (sym e)
        (ap (λ (n : Option NormalName). is_above n name) (sym is) ∙ h.0, rest)

stanzas_in_order : (ps : Lines) → AreFew ps → AreInOrder (names_of ps) → AreInOrder (as_first (flat_map record_lines ps))
stanzas_in_order [] few h = tt
stanzas_in_order (p ∷ ps) few h = by (one_of p few.0) (stanzas_in_order ps few.1 h.1)
  where
    by : One p → AreInOrder (as_first (flat_map record_lines ps)) → AreInOrder (as_first (record_lines p ++ flat_map record_lines ps))
    by (none e) rest = subst (λ (x : List Lines). AreInOrder (as_first (x ++ flat_map record_lines ps))) (sym e) rest
    by (one ls e is) rest =
        subst (λ (x : List Lines). AreInOrder (as_first (x ++ flat_map record_lines ps))) (sym e)
        (none_there (name_of_lines true ls) ps few.1 (subst (λ (n : Option NormalName). AllByRecursion (λ later. is_above later n ≡ false) (names_of ps)) is h.0), rest)

names_are : (text : List ℕ) → map name_read (records text) ≡ names_from true (record_lines text)
unfolding with_first_flag
names_are text = blocks (records text) ∙ ap (map of_block) (flagged_are text ∙ ap (with_first_flag true) (sym (records_are text))) ∙ flags true (record_lines text)
  where
    of_block : Bool × Lines → Option NormalName
    of_block b = name_of_lines b.0 b.1

    blocks : (rs : List RawRecord) → map name_read rs ≡ map of_block (map raw_block rs)
    blocks [] = refl
    blocks (r ∷ rs) = ap (λ (x : Names). name_read r ∷ x) (blocks rs)

    flags : (first : Bool) (parts : List Lines) → map of_block (with_first_flag first parts) ≡ names_from first parts
    flags first [] = refl
    flags first (ls ∷ more) = ap (λ (x : Names). name_of_lines first ls ∷ x) (flags false more)

-- records that stand behind a head, as those of stanzas in order, are in order
pub in_order : (head text : List ℕ) (ps : Lines) → AreFew ps → AreInOrder (names_of ps)
    → StandBehind head (record_lines text) (flat_map record_lines ps) → AreInOrder (map name_read (records text))
in_order head text ps few order h = subst AreInOrder (sym (names_are text)) (behind_head head (record_lines text) (flat_map record_lines ps) h (stanzas_in_order ps few order))

-- ---- stanzas in turn have one record each, too

few_at : (ps : Lines) (n : ℕ) → AreFew ps → length (record_lines (slice_index_or ps n [])) ≤ 1
few_at [] n few = subst (λ (x : List Lines). length x ≤ 1) (sym (records_are [])) (omega arith)
few_at (p ∷ ps) zero few = few.0
few_at (p ∷ ps) (suc n) few = few_at ps n few.1

pub few_in_turn : (ps : Lines) → AreFew ps → AreFew (sorted_stanzas ps)
few_in_turn ps few = by (turns (names_of ps))
  where
    by : (ts : List Turn) → AreFew (in_turn ps ts)
    by [] = tt
    by (t ∷ ts) = (few_at ps t.number few, by ts)
