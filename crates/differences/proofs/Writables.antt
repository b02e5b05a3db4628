-- The changes between two directories can be written.
use Rattle.std.proofs.Common.{◌≡◌, ℕ, Bool, true, false, cond, not, List, [], ◌∷◌, ◌++◌, map, length, reverse, Option, Some, None, refl, sym, ap, subst, arith}
use Rattle.std.specs.Prelude.{nat_eq, nat_lt, is_some, ◌&&◌, ◌==◌}
use Rattle.std.specs.List.{AllByRecursion, list_any, list_all, flat_map}
use Rattle.std.specs.Str.{bytes_eq}
use Rattle.std.specs.FinMap as finite
use Rattle.std.proofs.lemmas.Bool.{and_parts}
use Rattle.std.proofs.lemmas.Bool.Decides.{nat_tests}
use Rattle.std.proofs.lemmas.List.{reverse-append}
use Rattle.ldif.specs.declared.record.Mod.{Mod}
use Rattle.ldif.specs.declared.record.Op.TheVariants as ops
use Rattle.ldif.specs.Contents.{is_byte, is_inner_name_byte, IsName}
use Rattle.ldif.proofs.WrittenLines.{is_clean, clean_end, all_weaker}
use Rattle.dn.specs.Names as names
use Rattle.dn.specs.Names.{is_type_byte, is_type, is_ascii}
use Rattle.dn.specs.Writing.{text_of}
use Rattle.values.specs.declared.types.AttributeType.{AttributeType}
use Rattle.values.specs.Types.{name_of, is_known, has_equality}
use Rattle.paths.specs.Paths.{Path}
use Rattle.schema.specs.Values.{is_valid_at}
use Rattle.schema.specs.Names.{written_rdn}
use Rattle.schema.specs.Rdns.{TypedRdn}
use Rattle.schema.specs.GoodRdns.{IsRdn}
use Rattle.schema.specs.Conf.{Conf, IsConf, name_text}
use Rattle.schema.proofs.AvaValues.{HaveBytes}
use Rattle.schema.proofs.Locating.{WritesAscii, name_is}
use Rattle.entries.specs.Entries.{Attributes, EntryContent, IsAttribute, attribute_lines, lines_of}
use Rattle.entries.proofs.Pushed.{all_push}
use Rattle.tree.specs.Directories.{Entries, IsDirectory, name_of_entry, rdns_from}
use Rattle.tree.proofs.Ancestors.{along}
use Rattle.differences.specs.EntryChanges.{Values, Block, and_goes, values_between, with_some, are_none, block_of, blocks_for, blocks_at, blocks_between, deleting, adding, mod_of, mods_between, users}
use Rattle.differences.specs.Differences.{Extent, aimed, IsGoal, same_spelling, removing, respelling, respellings, modifying, changes_at, changes_of, only_in, changes_between}
use Rattle.ldif.specs.Changes.{AreBytes, IsWritableLine, IsWritableMod, IsWritableHead, IsWritableChange}
use Rattle.differences.proofs.Turned.{IsUsers}
use Rattle.differences.proofs.Parted.{users_good}
use Rattle.differences.proofs.Modified.{of_between, all_known}
use Rattle.differences.proofs.PathMaps.{Pairs, all_there}
use Rattle.differences.proofs.Gone.{Locates, only_are}
use Rattle.differences.proofs.Goals.{aims_at, goes_at}

abbrev pub NamesAreAscii : Type 0
NamesAreAscii = (conf : Conf) (rs : List TypedRdn) → IsConf conf → AllByRecursion (IsRdn conf.types) rs → list_all (λ b. nat_lt b 128) (name_text conf rs) ≡ true

abbrev pub TypesHaveText : Type 0
TypesHaveText = (conf : Conf) (t : ℕ) → IsConf conf → is_known conf.types t ≡ true → is_type (name_of conf.types t) ≡ true

abbrev pub ValuesAreBytes : Type 0
ValuesAreBytes = (types : List AttributeType) (t : ℕ) (v : List ℕ) → is_valid_at types t v ≡ true → list_all (λ b. nat_lt b 256) v ≡ true

-- ---- bytes

ascii_byte : (b : ℕ) → nat_lt b 128 ≡ true → is_byte b ≡ true
ascii_byte b h = grind (arith, nat_tests)

any_byte : (b : ℕ) → nat_lt b 256 ≡ true → is_byte b ≡ true
any_byte b h = grind (arith, nat_tests)

ascii_is : (b : ℕ) → is_ascii b ≡ true → is_byte b ≡ true
ascii_is b h = grind (arith, nat_tests)

type_byte : (b : ℕ) → is_type_byte b ≡ true → is_byte b ≡ true
type_byte b h = grind (arith, nat_tests)

type_inner : (b : ℕ) → is_type_byte b ≡ true → is_inner_name_byte b ≡ true
type_inner b h = grind (arith, nat_tests)

type_clean : (b : ℕ) → is_type_byte b ≡ true → is_clean b ≡ true
type_clean b h = grind (arith, nat_tests)

type_begins : (b : ℕ) → is_type_byte b ≡ true → (not (b == 32) && not (b == 35)) ≡ true
type_begins b h = grind (arith, nat_tests)

name_from : (text : List ℕ) → is_type text ≡ true → IsName text
name_from [] h = absurd cc
name_from (b ∷ bs) h =
    let k = (and_parts (not (length (b ∷ bs) == 0)) (list_all is_type_byte (b ∷ bs)) h).1 in
    record { begins = type_begins b (and_parts (is_type_byte b) (list_all is_type_byte bs) k).0; bytes = all_weaker is_type_byte is_inner_name_byte type_inner (b ∷ bs) k }

type_bytes : (text : List ℕ) → is_type text ≡ true → list_all is_type_byte text ≡ true
type_bytes text h = (and_parts (not (length text == 0)) (list_all is_type_byte text) h).1

-- ---- the values of blocks

abbrev AllBytes : Values → Type 0
AllBytes vs = AllByRecursion AreBytes vs

between_bytes : (vs ws : Values) → AllBytes vs → AllBytes ws → AllBytes (values_between vs ws).0 × AllBytes (values_between vs ws).1
unfolding values_between
between_bytes [] ws h g = (tt, g)
between_bytes (v ∷ vs) [] h g = (h, tt)
between_bytes (v ∷ vs) (w ∷ ws) h g = by (bytes_eq v w) (list_any (bytes_eq w) vs) (between_bytes vs ws h.1 g.1) (between_bytes vs (w ∷ ws) h.1 g)
  where
    by : (a b : Bool) → AllBytes (values_between vs ws).0 × AllBytes (values_between vs ws).1 → AllBytes (values_between vs (w ∷ ws)).0 × AllBytes (values_between vs (w ∷ ws)).1
        → AllBytes (cond a (values_between vs ws) (cond b (and_goes v (values_between vs (w ∷ ws))) (v ∷ vs, w ∷ ws))).0
        × AllBytes (cond a (values_between vs ws) (cond b (and_goes v (values_between vs (w ∷ ws))) (v ∷ vs, w ∷ ws))).1
    by true b one other = one
    by false true one other = ((h.0, other.0), other.1)
    by false false one other = (h, g)

abbrev OfBlocks : List Block → Type 0
OfBlocks bs = AllByRecursion (λ b. AllBytes b.values) bs

abbrev OfAttributes : Attributes → Type 0
OfAttributes attrs = AllByRecursion (λ a. AllBytes a.1) attrs

of_both : (xs ys : List Block) → OfBlocks xs → OfBlocks ys → OfBlocks (xs ++ ys)
of_both [] ys h g = g
of_both (x ∷ xs) ys h g = (h.0, of_both xs ys h.1 g)

of_deleting : (attrs : Attributes) → OfBlocks (map deleting attrs)
of_deleting [] = tt
of_deleting (a ∷ more) = (tt, of_deleting more)

of_adding : (attrs : Attributes) → OfAttributes attrs → OfBlocks (map adding attrs)
of_adding [] h = tt
of_adding (a ∷ more) h = (h.0, of_adding more h.1)

of_for : (types : List AttributeType) (t : ℕ) (after gone come : Values) → AllBytes after → AllBytes gone → AllBytes come → OfBlocks (blocks_for types t after gone come)
of_for types t after gone come h g k = by (are_none gone come) (has_equality types t && nat_lt _ (length after))
  where
    some_of : (op : _) (vs : Values) → AllBytes vs → OfBlocks (with_some t op vs)
    some_of op [] f = tt
    some_of op (v ∷ vs) f = (f, tt)

    by : (a b : Bool) → OfBlocks (cond a [] (cond b (with_some t ops.Delete gone ++ with_some t ops.Add come) (block_of t ops.Replace after ∷ [])))
    by true b = tt
    by false true = of_both (with_some t ops.Delete gone) (with_some t ops.Add come) (some_of ops.Delete gone g) (some_of ops.Add come k)
    by false false = (h, tt)

bytes_between : (types : List AttributeType) (more bs : Attributes) → OfAttributes more → OfAttributes bs → OfBlocks (blocks_between types more bs)
unfolding blocks_between
bytes_between types [] bs h g = of_adding bs g
bytes_between types (a ∷ more) [] h g = of_deleting (a ∷ more)
bytes_between types (a ∷ more) (b ∷ bs) h g = by (nat_eq a.0 b.0) (list_any (λ x. nat_eq b.0 x.0) more) (bytes_between types more bs h.1 g.1) (bytes_between types more (b ∷ bs) h.1 g)
  where
    by : (x y : Bool) → OfBlocks (blocks_between types more bs) → OfBlocks (blocks_between types more (b ∷ bs))
        → OfBlocks (cond x (blocks_at types a.0 a.1 b.1 ++ blocks_between types more bs) (cond y (deleting a ∷ blocks_between types more (b ∷ bs)) (map deleting (a ∷ more) ++ map adding (b ∷ bs))))
    by true y one other =
        let k = between_bytes a.1 b.1 h.0 g.0 in
        of_both (blocks_at types a.0 a.1 b.1) (blocks_between types more bs) (of_for types a.0 b.1 (values_between a.1 b.1).0 (values_between a.1 b.1).1 g.0 k.0 k.1) one
    by false true one other = (tt, other)
    by false false one other = of_both (map deleting (a ∷ more)) (map adding (b ∷ bs)) (of_deleting (a ∷ more)) (of_adding (b ∷ bs) g)

all_append : {X : Type 0} (P : X → Type 0) (xs ys : List X) → AllByRecursion P xs → AllByRecursion P ys → AllByRecursion P (xs ++ ys)
all_append P [] ys h g = g
all_append P (x ∷ xs) ys h g = (h.0, all_append P xs ys h.1 g)

module _ (prints : NamesAreAscii) (texts : TypesHaveText) (bytes : ValuesAreBytes) (raw : HaveBytes) (ascii : WritesAscii) (conf : Conf) (ok : IsConf conf) where
  values_bytes : (t : ℕ) (vs : Values) → AllByRecursion (λ v. is_valid_at conf.types t v ≡ true) vs → AllBytes vs
  values_bytes t [] h = tt
  values_bytes t (v ∷ vs) h = (all_weaker (λ b. nat_lt b 256) is_byte any_byte v (bytes conf.types t v h.0), values_bytes t vs h.1)

  attrs_bytes : (attrs : Attributes) → AllByRecursion (IsUsers conf.types) attrs → OfAttributes attrs
  attrs_bytes [] h = tt
  attrs_bytes (a ∷ more) h = (values_bytes a.0 a.1 h.0.good.values, attrs_bytes more h.1)

  -- the mods
  mods_from : (bs : List Block) → AllByRecursion (λ b. is_known conf.types b.number ≡ true) bs → OfBlocks bs → AllByRecursion IsWritableMod (map (mod_of conf.types) bs)
  mods_from [] known h = tt
  mods_from (b ∷ bs) known h =
      let text = texts conf b.number ok known.0 in
      let name : List ℕ = name_of conf.types b.number in (
        record {
          name = name_from name text;
          bytes = all_weaker is_type_byte is_byte type_byte name (type_bytes name text);
          trimmed = clean_end name (all_weaker is_type_byte is_clean type_clean name (type_bytes name text));
          values = h.0;
        },
        mods_from bs known.1 h.1,
      )

  mods_writable : (before after : Attributes) → AllByRecursion (IsAttribute conf.types) before → AllByRecursion (IsAttribute conf.types) after → AllByRecursion IsWritableMod (mods_between conf.types before after)
  mods_writable before after h g =
      let us = users_good conf.types before h in
      let ws = users_good conf.types after g in
      mods_from (blocks_between conf.types (users conf.types before) (users conf.types after))
      (of_between (λ t. is_known conf.types t ≡ true) conf.types (users conf.types before) (users conf.types after) (all_known conf.types (users conf.types before) us) (all_known conf.types (users conf.types after) ws))
      (bytes_between conf.types (users conf.types before) (users conf.types after) (attrs_bytes (users conf.types before) us) (attrs_bytes (users conf.types after) ws))

  -- the lines
  value_lines : (t : ℕ) (vs : Values) → is_known conf.types t ≡ true → AllBytes vs → AllByRecursion IsWritableLine (attribute_lines conf.types (t, vs))
  value_lines t [] known h = tt
  value_lines t (v ∷ vs) known h = (record { name = name_from (name_of conf.types t) (texts conf t ok known); value = h.0 }, value_lines t vs known h.1)

  lines_writable : (attrs : Attributes) → AllByRecursion (IsUsers conf.types) attrs → AllByRecursion IsWritableLine (lines_of conf.types attrs)
  unfolding lines_of
  lines_writable [] h = tt
  lines_writable (a ∷ more) h = all_append IsWritableLine (attribute_lines conf.types a) (lines_of conf.types more) (value_lines a.0 a.1 h.0.good.known (values_bytes a.0 a.1 h.0.good.values)) (lines_writable more h.1)

  head_is : (d : Entries) → IsDirectory conf d → (p : Path) → finite.contains_key d p ≡ true → IsWritableHead (name_of_entry conf d p) []
  head_is d h p there = record { dn = all_weaker (λ b. nat_lt b 128) is_byte ascii_byte (name_of_entry conf d p) (prints conf (rdns_from d [] p) ok (along conf d h p [] there).0); controls = refl }

  module _ (extent : Extent) (a b goal : Entries) (h : IsDirectory conf a) (named : IsDirectory conf b) (aims : IsGoal conf extent a b goal) (g : IsDirectory conf goal) where
    at_path : (p : Path) (o : Option EntryContent) (e : EntryContent) → finite.get a p ≡ o → finite.contains_key b p ≡ true → finite.get goal p ≡ Some e
        → AllByRecursion IsWritableChange (changes_at conf a b p o e)
    at_path p None e none there at = ((head_is b named p there, lines_writable (users conf.types e.attrs) (users_good conf.types e.attrs (g.good p e at).attrs)), tt)
    at_path p (Some x) e known there at =
        all_append IsWritableChange (respellings (same_spelling x.rdn e.rdn) (respelling conf a p e.rdn)) (modifying conf b p (mods_between conf.types x.attrs e.attrs))
        (by (same_spelling x.rdn e.rdn)) (modify (mods_between conf.types x.attrs e.attrs) (mods_writable x.attrs e.attrs (h.good p x known).attrs (g.good p e at).attrs))
      where
        by : (c : Bool) → AllByRecursion IsWritableChange (respellings c (respelling conf a p e.rdn))
        by true = tt
        by false =
            let n : names.Name = written_rdn conf.types e.rdn ∷ [] in
            let good = name_is raw conf ok (e.rdn ∷ []) ((g.good p e at).rdn, tt) in
            ((head_is a h p (ap is_some known), all_weaker is_ascii is_byte ascii_is (text_of n) (ascii n good), tt), tt)

        modify : (mods : List Mod) → AllByRecursion IsWritableMod mods → AllByRecursion IsWritableChange (modifying conf b p mods)
        modify [] f = tt
        modify (m ∷ ms) f = ((head_is b named p there, f), tt)

    at_one : (y : Path × EntryContent) → finite.get b y.0 ≡ Some y.1 → AllByRecursion IsWritableChange (changes_of conf extent a b y)
    at_one y there = by (extent.has y.0) refl
      where
        by : (c : Bool) → extent.has y.0 ≡ c → AllByRecursion IsWritableChange (cond c (changes_at conf a b y.0 (finite.get a y.0) (aimed extent.as_sets conf.types (finite.get a y.0) y.1)) [])
        by true has =
            at_path y.0 (finite.get a y.0) (aimed extent.as_sets conf.types (finite.get a y.0) y.1) refl (ap is_some there) (aims_at conf extent a b goal aims y.0 y.1 has there)
        by false has = tt

    at_all : (es : Pairs) → AllByRecursion (λ e. finite.get b e.0 ≡ Some e.1) es → AllByRecursion IsWritableChange (flat_map (changes_of conf extent a b) es)
    at_all [] f = tt
    at_all (y ∷ es) f = all_append IsWritableChange (changes_of conf extent a b y) (flat_map (changes_of conf extent a b) es) (at_one y f.0) (at_all es f.1)

    all_reverse : (P : Path × EntryContent → Type 0) (xs : Pairs) → AllByRecursion P xs → AllByRecursion P (reverse xs)
    all_reverse P [] f = tt
    all_reverse P (x ∷ xs) f = subst (AllByRecursion P) (sym (reverse-append (x ∷ []) xs)) (all_push P (reverse xs) x (all_reverse P xs f.1) f.0)

    abbrev IsGone : Path × EntryContent → Type 0
    IsGone x = (finite.get a x.0 ≡ Some x.1) × (finite.contains_key goal x.0 ≡ false)

    gone_writable : (xs : Pairs) → AllByRecursion IsGone xs → AllByRecursion IsWritableChange (map (λ x. removing conf a x.0) xs)
    gone_writable [] f = tt
    gone_writable (x ∷ xs) f = (head_is a h x.0 (ap is_some f.0.0), gone_writable xs f.1)

    pub changes_writable : Locates → AllByRecursion IsWritableChange (changes_between conf extent a b)
    unfolding changes_between
    changes_writable reads =
        let gone : AllByRecursion IsGone (only_in extent a b) = subst (AllByRecursion IsGone) (sym (goes_at conf extent a b goal aims)) (only_are reads conf ok a goal h g (finite.entries a) (all_there a)) in
        all_append IsWritableChange (map (λ x. removing conf a x.0) (reverse (only_in extent a b))) (flat_map (changes_of conf extent a b) (finite.entries b))
        (gone_writable (reverse (only_in extent a b)) (all_reverse IsGone (only_in extent a b) gone))
        (at_all (finite.entries b) (all_there b))
