-- The parts of a record are read exactly where they have their forms.
use Rattle.std.proofs.Common.{◌≡◌, ℕ, zero, suc, Bool, true, false, ◌&&◌, cond, List, [], ◌∷◌, ◌++◌, replicate, Option, Some, None, Result, Ok, Err, codes, refl, sym, ap, subst, ◌∙◌, inl, inr, ◌⊎◌}
use Rattle.std.specs.List.{AllByRecursion, list_all, onto_first}
use Rattle.std.specs.Str.{bytes_eq}
use Rattle.std.proofs.lemmas.Bool.{false_from_ne_true, true≢false}
use Rattle.std.proofs.lemmas.Slice.Eq.{bytes_eq-Decides}
use Rattle.base64.specs.GeneralPurpose.{IsBytes}
use Rattle.ldif.specs.declared.fault.LdifFaultKind.{LdifFaultKind}
use Rattle.ldif.specs.declared.fault.LdifFaultKind.TheVariants.{OtherAttribute, PartMissing, StrayLine, Word, ChangetypeUnknown}
use Rattle.ldif.specs.Attrs.{Attr}
use Rattle.ldif.specs.declared.record.Control.{Control}
use Rattle.ldif.specs.declared.record.Mod.{Mod}
use Rattle.ldif.specs.declared.record.Op.{Op}
use Rattle.ldif.specs.declared.record.Op.TheVariants as ops
use Rattle.ldif.specs.declared.record.Record.{Record}
use Rattle.ldif.specs.declared.record.Record.TheVariants as records
use Rattle.base.specs.Answers.{◌>>=◌, each}
use Rattle.base.specs.Ends.{without_end}
use Rattle.ldif.specs.Line.{value_line, lower, same_name, is_word}
use Rattle.ldif.specs.Reading.{part, nothing_more, new_superior_of, flag_of, delete_old_of, is_dash, blocks, op_of, value_under, block, renaming, change}
use Rattle.ldif.specs.Forms.{IsEach, IsValueLine, IsSame, IsLineOf, IsWord, is_no_colon, IsDash, op_word, IsBlock, IsBlocks, IsNewSuperior, flag_word, IsRenaming, IsAdd, IsDelete, IsModify, IsChange}
use Rattle.base.proofs.Bound.{bind_ok}
use Rattle.ldif.proofs.Inverted.{chosen, okay, ok_is, good, same_found, same_only, other_word, each_found, each_only, each_map, each_all, Reads}
use Rattle.ldif.proofs.Spaces.{end_is, cut_end, trimmed_found, trimmed_only}
use Rattle.ldif.proofs.ValueForms.{line_found, line_only}

abbrev pub AreBytes : List (List ℕ) → Type 0
AreBytes lines = AllByRecursion IsBytes lines

-- ---- lines of a keyword, and words

pub named_found : (key line : List ℕ) (a : Attr) → IsBytes line → value_line line ≡ Ok a → same_name a.name key ≡ true → IsLineOf key line a.value
named_found key line a bytes e same = record { name = a.name; is = line_found line a bytes e; same = same_found a.name key same }

abbrev pub attr_of : List ℕ → List ℕ → Attr
attr_of name value = record { name = name; value = value }

abbrev pub said_by : {key line value : List ℕ} → IsLineOf key line value → Attr
said_by {value = value} h = attr_of h.name value

pub named_only : (key line value : List ℕ) (h : IsLineOf key line value) → value_line line ≡ Ok (attr_of h.name value)
named_only key line value h = line_only line (attr_of h.name value) h.is

pub word_found : (text word : List ℕ) → is_word text word ≡ true → IsWord text word
word_found text word e = record { written = without_end text; trimmed = trimmed_found text; same = same_found (without_end text) word e }

pub word_only : (text word : List ℕ) → IsWord text word → is_word text word ≡ true
word_only text word h = ap (λ (x : List ℕ). same_name x word) (trimmed_only text h.written h.trimmed) ∙ same_only h.written word h.same

pub word_other : (text a b : List ℕ) → IsWord text a → bytes_eq (lower a) (lower b) ≡ false → is_word text b ≡ false
word_other text a b h e = ap (λ (x : List ℕ). same_name x b) (trimmed_only text h.written h.trimmed) ∙ other_word h.written a b h.same e

-- ---- parts

abbrev Part : Type 0
Part = List ℕ × List (List ℕ)

pub record IsPart (key : List ℕ) (lines : List (List ℕ)) (x : Part) : Type 0 where
  pub line : List ℕ
  pub is : lines ≡ line ∷ x.1
  pub named : IsLineOf key line x.0

pub part_found : (key : List ℕ) (ls : List (List ℕ)) (x : Part) → AreBytes ls → part key ls ≡ Ok x → IsPart key ls x
unfolding part
part_found key [] x bytes h = absurd cc
part_found key (l ∷ ls) x bytes h =
    let a = bind_ok (value_line l) (λ attr. cond (same_name attr.name key) (Ok (attr.value, ls)) (Err PartMissing)) x h in
    let g = good (same_name a.0.name key) (Ok (a.0.value, ls)) PartMissing x a.2 in
    let p : Part = (a.0.value, ls) in
    subst (λ (y : Part). IsPart key (l ∷ ls) y) (ok_is p x g.1) (record { line = l; is = refl; named = named_found key l a.0 bytes.0 a.1 g.0 })

pub part_only : (key line value : List ℕ) (ls : List (List ℕ)) → IsLineOf key line value → part key (line ∷ ls) ≡ Ok (value, ls)
unfolding part
part_only key line value ls h =
    let p : Part = (value, ls) in
    ap (λ (r : Result Attr LdifFaultKind). r >>= λ attr. cond (same_name attr.name key) (Ok (attr.value, ls)) (Err PartMissing)) (named_only key line value h)
    ∙ ap (λ (t : Bool). cond t (okay p) (Err PartMissing)) (same_only h.name key h.same)

nothing_found : (ls : List (List ℕ)) (u : Unit {0}) → nothing_more ls ≡ Ok u → ls ≡ []
unfolding nothing_more
nothing_found [] u h = refl
nothing_found (l ∷ ls) u h = absurd (let a = bind_ok (value_line l) (λ attr. Err StrayLine) u h in let k = a.2 in cc)

nothing_only : (ls : List (List ℕ)) → ls ≡ [] → nothing_more ls ≡ Ok tt
unfolding nothing_more
nothing_only ls e = ap nothing_more e

abbrev some : List ℕ → Option (List ℕ)
some v = Some v

superior_found : (ls : List (List ℕ)) (v : Option (List ℕ)) → AreBytes ls → new_superior_of ls ≡ Ok v → IsNewSuperior ls v
unfolding new_superior_of
superior_found [] None bytes h = refl
superior_found [] (Some v) bytes h = absurd cc
superior_found (l ∷ ls) v bytes h =
    let a = bind_ok (value_line l) (λ attr. cond (same_name attr.name (codes "newsuperior")) (nothing_more ls >>= λ u. Ok (Some attr.value)) (Err StrayLine)) v h in
    let g = good (same_name a.0.name (codes "newsuperior")) (nothing_more ls >>= λ u. Ok (Some a.0.value)) StrayLine v a.2 in
    let n = bind_ok (nothing_more ls) (λ u. Ok (Some a.0.value)) v g.1 in
    subst (λ (x : Option (List ℕ)). IsNewSuperior (l ∷ ls) x) (ok_is (some a.0.value) v n.2)
    (l, ap (λ (x : List (List ℕ)). l ∷ x) (nothing_found ls n.0 n.1), named_found (codes "newsuperior") l a.0 bytes.0 a.1 g.0)

superior_only : (ls : List (List ℕ)) (v : Option (List ℕ)) → IsNewSuperior ls v → new_superior_of ls ≡ Ok v
unfolding new_superior_of nothing_more
superior_only ls None h = ap new_superior_of h
superior_only ls (Some v) h =
    ap new_superior_of h.1
    ∙ ap (λ (r : Result Attr LdifFaultKind). r >>= λ attr. cond (same_name attr.name (codes "newsuperior")) (okay (some attr.value)) (Err StrayLine)) (named_only (codes "newsuperior") h.0 v h.2)
    ∙ ap (λ (t : Bool). cond t (okay (some v)) (Err StrayLine)) (same_only h.2.name (codes "newsuperior") h.2.same)

pub flag_found : (text : List ℕ) (flag : Bool) → flag_of text ≡ Ok flag → IsWord text (flag_word flag)
unfolding flag_of
flag_found text flag h = elim (chosen (is_word text (codes "1")) (okay true) (cond (is_word text (codes "0")) (okay false) (Err Word)) (Ok flag) h) [
  | inl one ↦ subst (λ (t : Bool). IsWord text (flag_word t)) (ok_is true flag one.1) (word_found text (codes "1") one.0)
  | inr other ↦ (let zero = good (is_word text (codes "0")) (okay false) Word flag other.1 in subst (λ (t : Bool). IsWord text (flag_word t)) (ok_is false flag zero.1) (word_found text (codes "0") zero.0))
]

pub flag_only : (text : List ℕ) (flag : Bool) → IsWord text (flag_word flag) → flag_of text ≡ Ok flag
unfolding flag_of
flag_only text true h = ap (λ (t : Bool). cond t (okay true) (cond (is_word text (codes "0")) (okay false) (Err Word))) (word_only text (codes "1") h)
flag_only text false h =
    ap (λ (t : Bool). cond t (okay true) (cond (is_word text (codes "0")) (okay false) (Err Word))) (word_other text (codes "0") (codes "1") h refl)
    ∙ ap (λ (t : Bool). cond t (okay false) (Err Word)) (word_only text (codes "0") h)

-- ---- the blocks of a modify

under_found : (name line v : List ℕ) → IsBytes line → value_under name line ≡ Ok v → IsLineOf name line v
unfolding value_under
under_found name line v bytes h =
    let a = bind_ok (value_line line) (λ attr. cond (same_name attr.name name) (Ok attr.value) (Err OtherAttribute)) v h in
    let g = good (same_name a.0.name name) (Ok a.0.value) OtherAttribute v a.2 in
    subst (λ (x : List ℕ). IsLineOf name line x) (ok_is a.0.value v g.1) (named_found name line a.0 bytes a.1 g.0)

under_only : (name line v : List ℕ) → IsLineOf name line v → value_under name line ≡ Ok v
unfolding value_under
under_only name line v h =
    ap (λ (r : Result Attr LdifFaultKind). r >>= λ attr. cond (same_name attr.name name) (Ok attr.value) (Err OtherAttribute)) (named_only name line v h)
    ∙ ap (λ (t : Bool). cond t (okay v) (Err OtherAttribute)) (same_only h.name name h.same)

pub op_found : (name : List ℕ) (op : Op) → op_of name ≡ Ok op → IsSame name (op_word op)
unfolding op_of
op_found name op h = elim (chosen (same_name name (codes "add")) (okay ops.Add) (cond (same_name name (codes "delete")) (okay ops.Delete) (cond (same_name name (codes "replace")) (okay ops.Replace) (Err StrayLine))) (Ok op) h) [
  | inl a ↦ subst (λ (o : Op). IsSame name (op_word o)) (ok_is ops.Add op a.1) (same_found name (codes "add") a.0)
  | inr a ↦ elim (chosen (same_name name (codes "delete")) (okay ops.Delete) (cond (same_name name (codes "replace")) (okay ops.Replace) (Err StrayLine)) (Ok op) a.1) [
    | inl d ↦ subst (λ (o : Op). IsSame name (op_word o)) (ok_is ops.Delete op d.1) (same_found name (codes "delete") d.0)
    | inr d ↦ (let r = good (same_name name (codes "replace")) (okay ops.Replace) StrayLine op d.1 in subst (λ (o : Op). IsSame name (op_word o)) (ok_is ops.Replace op r.1) (same_found name (codes "replace") r.0))
  ]
]

op_tests : Bool → Bool → Bool → Result Op LdifFaultKind
op_tests add delete replace = cond add (okay ops.Add) (cond delete (okay ops.Delete) (cond replace (okay ops.Replace) (Err StrayLine)))

pub op_only : (name : List ℕ) (op : Op) → IsSame name (op_word op) → op_of name ≡ Ok op
unfolding op_of op_tests
op_only name ops.Add h = ap (λ (t : Bool). op_tests t (same_name name (codes "delete")) (same_name name (codes "replace"))) (same_only name (codes "add") h)
op_only name ops.Delete h =
    ap (λ (t : Bool). op_tests t (same_name name (codes "delete")) (same_name name (codes "replace"))) (other_word name (codes "delete") (codes "add") h refl)
    ∙ ap (λ (t : Bool). op_tests false t (same_name name (codes "replace"))) (same_only name (codes "delete") h)
op_only name ops.Replace h =
    ap (λ (t : Bool). op_tests t (same_name name (codes "delete")) (same_name name (codes "replace"))) (other_word name (codes "replace") (codes "add") h refl)
    ∙ ap (λ (t : Bool). op_tests false t (same_name name (codes "replace"))) (other_word name (codes "replace") (codes "delete") h refl)
    ∙ ap (λ (t : Bool). op_tests false false t) (same_only name (codes "replace") h)

abbrev made : Op → List ℕ → List (List ℕ) → Mod
made op attr values = record { op = op; attr = attr; values = values }

block_found : (b : List (List ℕ)) (m : Mod) → AreBytes b → block b ≡ Ok m → IsBlock b m
unfolding block
block_found [] m bytes h = absurd cc
block_found (l ∷ ls) m bytes h =
    let a = bind_ok (value_line l) (λ head. op_of head.name >>= λ op. each (value_under (without_end head.value)) ls >>= λ values. Ok (made op (without_end head.value) values)) m h in
    let o = bind_ok (op_of a.0.name) (λ op. each (value_under (without_end a.0.value)) ls >>= λ values. Ok (made op (without_end a.0.value) values)) m a.2 in
    let v = bind_ok (each (value_under (without_end a.0.value)) ls) (λ values. Ok (made o.0 (without_end a.0.value) values)) m o.2 in
    subst (λ (x : Mod). IsBlock (l ∷ ls) x) (ok_is (made o.0 (without_end a.0.value) v.0) m v.2) (record {
      head = l;
      values = ls;
      is = refl;
      text = a.0.value;
      line = record { name = a.0.name; is = line_found l a.0 bytes.0 a.1; same = op_found a.0.name o.0 o.1 };
      attr = trimmed_found a.0.value;
      each = each_map IsBytes (Reads (value_under (without_end a.0.value))) (IsLineOf (without_end a.0.value)) (under_found (without_end a.0.value)) ls v.0 bytes.1
          (each_found (value_under (without_end a.0.value)) ls v.0 v.1);
    })

block_only : (b : List (List ℕ)) (m : Mod) → IsBlock b m → block b ≡ Ok m
unfolding block
block_only b m h =
    ap block h.is
    ∙ ap (λ (r : Result Attr LdifFaultKind). r >>= λ head. op_of head.name >>= λ op. each (value_under (without_end head.value)) h.values >>= λ values. okay (made op (without_end head.value) values)) (named_only (op_word m.op) h.head h.text h.line)
    ∙ ap (λ (r : Result Op LdifFaultKind). r >>= λ op. each (value_under (without_end h.text)) h.values >>= λ values. okay (made op (without_end h.text) values)) (op_only h.line.name m.op h.line.same)
    ∙ ap (λ (x : List ℕ). each (value_under x) h.values >>= λ values. okay (made m.op x values)) (trimmed_only h.text m.attr h.attr)
    ∙ ap (λ (r : Result (List (List ℕ)) LdifFaultKind). r >>= λ values. okay (made m.op m.attr values))
    (each_only (value_under m.attr) h.values m.values (each_all (IsLineOf m.attr) (Reads (value_under m.attr)) (under_only m.attr) h.values m.values h.each))

-- ---- where blocks end

pub dash_found : (line : List ℕ) → is_dash line ≡ true → IsDash line
unfolding is_dash
dash_found line e =
    let t : without_end line ≡ codes "-" = (bytes_eq-Decides (without_end line) (codes "-")).0 e in
    let r = end_is line in
    record { spaces = r.0; is = r.1 ∙ ap (λ (x : List ℕ). x ++ replicate r.0 32) t }

pub dash_only : (line : List ℕ) → IsDash line → is_dash line ≡ true
unfolding is_dash
dash_only line h = ap (λ (x : List ℕ). bytes_eq (without_end x) (codes "-")) h.is ∙ ap (λ (x : List ℕ). bytes_eq x (codes "-")) (cut_end (45 ∷ []) h.spaces)

pub spaces_no_colon : (n : ℕ) → list_all is_no_colon (replicate n 32) ≡ true
spaces_no_colon zero = refl
spaces_no_colon (suc n) = spaces_no_colon n

has_colon : (name rest : List ℕ) → list_all is_no_colon (name ++ 58 ∷ rest) ≡ false
has_colon [] rest = refl
has_colon (b ∷ bs) rest = elim (is_no_colon b) as (λ t. (t && list_all is_no_colon (bs ++ 58 ∷ rest)) ≡ false) [ true ↦ has_colon bs rest | false ↦ refl ]

-- a value line is no `-`
pub no_dash : (line : List ℕ) (a : Attr) → IsValueLine line a → is_dash line ≡ false
no_dash line a h = false_from_ne_true (is_dash line) (λ e.
    (let d = dash_found line e in
    true≢false (sym (ap (list_all is_no_colon) d.is ∙ spaces_no_colon d.spaces) ∙ ap (list_all is_no_colon) h.is ∙ has_colon a.name h.rest)))

abbrev NoDash : List (List ℕ) → Type 0
NoDash ls = AllByRecursion (λ l. is_dash l ≡ false) ls

values_no_dash : (name : List ℕ) (ls vs : List (List ℕ)) → IsEach (IsLineOf name) ls vs → NoDash ls
values_no_dash name [] vs h = tt
values_no_dash name (l ∷ ls) [] h = absurd h
values_no_dash name (l ∷ ls) (v ∷ vs) h = (no_dash l (attr_of h.0.name v) h.0.is, values_no_dash name ls vs h.1)

block_no_dash : (b : List (List ℕ)) (m : Mod) → IsBlock b m → NoDash b
block_no_dash b m h = subst NoDash (sym h.is) (no_dash h.head (attr_of h.line.name h.text) h.line.is, values_no_dash m.attr h.values m.values h.each)

blocks_one : (l : List ℕ) (ls : List (List ℕ)) → NoDash (l ∷ ls) → blocks (l ∷ ls) ≡ (l ∷ ls) ∷ []
unfolding blocks
blocks_one l [] h = ap (λ (t : Bool). cond t ([] ∷ []) (onto_first l [])) h.0
blocks_one l (k ∷ ls) h = ap (λ (t : Bool). cond t ([] ∷ blocks (k ∷ ls)) (onto_first l (blocks (k ∷ ls)))) h.0 ∙ ap (onto_first l) (blocks_one k ls h.1)

blocks_cut : (b : List (List ℕ)) (d : List ℕ) (more : List (List ℕ)) → NoDash b → is_dash d ≡ true → blocks (b ++ d ∷ more) ≡ b ∷ blocks more
unfolding blocks
blocks_cut [] d more h e = ap (λ (t : Bool). cond t ([] ∷ blocks more) (onto_first d (blocks more))) e
blocks_cut (l ∷ b) d more h e = ap (λ (t : Bool). cond t ([] ∷ blocks (b ++ d ∷ more)) (onto_first l (blocks (b ++ d ∷ more)))) h.0 ∙ ap (onto_first l) (blocks_cut b d more h.1 e)

-- the pieces of lines that are cut at each `-`
abbrev IsCut : List (List (List ℕ)) → List (List ℕ) → Type 0
IsCut [] ls = ls ≡ []
IsCut (b ∷ bs) ls = ((ls ≡ b) × (bs ≡ [])) ⊎ ((d : List ℕ) × (more : List (List ℕ)) × (ls ≡ b ++ d ∷ more) × (is_dash d ≡ true) × IsCut bs more)

onto_cut : (l : List ℕ) (ls : List (List ℕ)) (bs : List (List (List ℕ))) → IsCut bs ls → IsCut (onto_first l bs) (l ∷ ls)
onto_cut l ls [] h = inl (ap (λ (x : List (List ℕ)). l ∷ x) h, refl)
onto_cut l ls (b ∷ bs) (inl h) = inl (ap (λ (x : List (List ℕ)). l ∷ x) h.0, h.1)
onto_cut l ls (b ∷ bs) (inr h) = inr (h.0, h.1, ap (λ (x : List (List ℕ)). l ∷ x) h.2, h.3, h.4)

cut_is : (ls : List (List ℕ)) → IsCut (blocks ls) ls
unfolding blocks
cut_is [] = refl
cut_is (l ∷ ls) = elim (is_dash l) as (λ t. is_dash l ≡ t → IsCut (cond t ([] ∷ blocks ls) (onto_first l (blocks ls))) (l ∷ ls)) [
  | true ↦ λ e. inr (l, ls, refl, e, cut_is ls)
  | false ↦ λ e. onto_cut l ls (blocks ls) (cut_is ls)
] refl

pub bytes_front : (a b : List (List ℕ)) → AreBytes (a ++ b) → AreBytes a
bytes_front [] b h = tt
bytes_front (x ∷ a) b h = (h.0, bytes_front a b h.1)

pub bytes_back : (a b : List (List ℕ)) → AreBytes (a ++ b) → AreBytes b
bytes_back [] b h = h
bytes_back (x ∷ a) b h = bytes_back a b h.1

none_more : (ms : List Mod) → each block [] ≡ Ok ms → ms ≡ []
unfolding each
none_more ms h = sym (ok_is [] ms h)

each_cons : (b : List (List ℕ)) (bs : List (List (List ℕ))) (ms : List Mod) → each block (b ∷ bs) ≡ Ok ms → (m : Mod) × (rest : List Mod) × (m ∷ rest ≡ ms) × (block b ≡ Ok m) × (each block bs ≡ Ok rest)
unfolding each
each_cons b bs ms h =
    let m = bind_ok (block b) (λ y. each block bs >>= λ ys. Ok (y ∷ ys)) ms h in
    let r = bind_ok (each block bs) (λ ys. Ok (m.0 ∷ ys)) ms m.2 in
    (m.0, r.0, ok_is (m.0 ∷ r.0) ms r.2, m.1, r.1)

mods_cut : (bs : List (List (List ℕ))) (ls : List (List ℕ)) (ms : List Mod) → AreBytes ls → IsCut bs ls → each block bs ≡ Ok ms → IsBlocks ms ls
mods_cut [] ls ms bytes cut h = subst (λ (x : List Mod). IsBlocks x ls) (sym (none_more ms h)) cut
mods_cut (b ∷ bs) ls ms bytes (inl cut) h =
    let c = each_cons b bs ms h in
    subst (λ (x : List Mod). IsBlocks x ls) c.2
    (b, block_found b c.0 (subst AreBytes cut.0 bytes) c.3, inl (cut.0, none_more c.1 (sym (ap (each block) cut.1) ∙ c.4)))
mods_cut (b ∷ bs) ls ms bytes (inr cut) h =
    let c = each_cons b bs ms h in
    let all = subst AreBytes cut.2 bytes in
    let more = (bytes_back b (cut.0 ∷ cut.1) all).1 in
    subst (λ (x : List Mod). IsBlocks x ls) c.2 (
      b,
      block_found b c.0 (bytes_front b (cut.0 ∷ cut.1) all) c.3,
      inr (record { dash = cut.0; more = cut.1; is = cut.2; ends = dash_found cut.0 cut.3; blocks = mods_cut bs cut.1 c.1 more cut.4 c.4 }),
    )

mods_found : (ls : List (List ℕ)) (ms : List Mod) → AreBytes ls → each block (blocks ls) ≡ Ok ms → IsBlocks ms ls
mods_found ls ms bytes h = mods_cut (blocks ls) ls ms bytes (cut_is ls) h

abbrev mods : List Mod → Result (List Mod) LdifFaultKind
mods ms = Ok ms

mods_only : (ms : List Mod) (ls : List (List ℕ)) → IsBlocks ms ls → each block (blocks ls) ≡ Ok ms
unfolding each blocks
mods_only [] ls h = ap (λ (x : List (List ℕ)). each block (blocks x)) h
mods_only (m ∷ ms) ls (b, is, inl end) =
    ap (λ (x : List (List ℕ)). each block (blocks x)) (end.0 ∙ is.is)
    ∙ ap (each block) (blocks_one is.head is.values (subst NoDash is.is (block_no_dash b m is)))
    ∙ ap (λ (r : Result Mod LdifFaultKind). r >>= λ y. okay (y ∷ [])) (sym (ap block is.is) ∙ block_only b m is)
    ∙ ap (λ (x : List Mod). mods (m ∷ x)) (sym end.1)
mods_only (m ∷ ms) ls (b, is, inr more) =
    ap (λ (x : List (List ℕ)). each block (blocks x)) more.is
    ∙ ap (each block) (blocks_cut b more.dash more.more (block_no_dash b m is) (dash_only more.dash more.ends))
    ∙ ap (λ (r : Result Mod LdifFaultKind). r >>= λ y. each block (blocks more.more) >>= λ ys. Ok (y ∷ ys)) (block_only b m is)
    ∙ ap (λ (r : Result (List Mod) LdifFaultKind). r >>= λ ys. mods (m ∷ ys)) (mods_only ms more.more more.blocks)

-- ---- change records

attrs_found : (ls : List (List ℕ)) (attrs : List Attr) → AreBytes ls → each value_line ls ≡ Ok attrs → IsEach IsValueLine ls attrs
attrs_found ls attrs bytes h = each_map IsBytes (Reads value_line) IsValueLine line_found ls attrs bytes (each_found value_line ls attrs h)

pub attrs_only : (ls : List (List ℕ)) (attrs : List Attr) → IsEach IsValueLine ls attrs → each value_line ls ≡ Ok attrs
attrs_only ls attrs h = each_only value_line ls attrs (each_all IsValueLine (Reads value_line) line_only ls attrs h)

abbrev renamed : List ℕ → List Control → List ℕ → Bool → Option (List ℕ) → Record
renamed dn controls newrdn flag superior = records.ModRdn dn controls newrdn flag superior

renaming_found : (dn : List ℕ) (cs : List Control) (ls : List (List ℕ)) (r : Record) → AreBytes ls → renaming dn cs ls ≡ Ok r → IsRenaming dn cs ls r
unfolding renaming delete_old_of
renaming_found dn cs ls r bytes h =
    let n = bind_ok (part (codes "newrdn") ls) (λ newrdn. delete_old_of newrdn.1 >>= λ old. new_superior_of old.1 >>= λ sup. Ok (renamed dn cs newrdn.0 old.0 sup)) r h in
    let o = bind_ok (delete_old_of n.0.1) (λ old. new_superior_of old.1 >>= λ sup. Ok (renamed dn cs n.0.0 old.0 sup)) r n.2 in
    let s = bind_ok (new_superior_of o.0.1) (λ sup. Ok (renamed dn cs n.0.0 o.0.0 sup)) r o.2 in
    let w = bind_ok (part (codes "deleteoldrdn") n.0.1) (λ word. flag_of word.0 >>= λ flag. Ok (flag, word.1)) o.0 o.1 in
    let f = bind_ok (flag_of w.0.0) (λ flag. Ok (flag, w.0.1)) o.0 w.2 in
    let p : Bool × List (List ℕ) = (f.0, w.0.1) in
    let same : p ≡ o.0 = ok_is p o.0 f.2 in
    let first = part_found (codes "newrdn") ls n.0 bytes n.1 in
    let bytes1 = (subst AreBytes first.is bytes).1 in
    let second = part_found (codes "deleteoldrdn") n.0.1 w.0 bytes1 w.1 in
    let bytes2 = (subst AreBytes second.is bytes1).1 in
    record {
      first = first.line;
      second = second.line;
      more = w.0.1;
      is = first.is ∙ ap (λ (x : List (List ℕ)). first.line ∷ x) second.is;
      newrdn = n.0.0;
      newrdn_line = first.named;
      flag = w.0.0;
      flag_line = second.named;
      delete_old = f.0;
      flag_is = flag_found w.0.0 f.0 f.1;
      new_superior = s.0;
      superior = superior_found w.0.1 s.0 bytes2 (ap (λ (x : Bool × List (List ℕ)). new_superior_of x.1) same ∙ s.1);
      record_is = sym (ok_is (renamed dn cs n.0.0 o.0.0 s.0) r s.2) ∙ ap (λ (x : Bool × List (List ℕ)). renamed dn cs n.0.0 x.0 s.0) (sym same);
    }

abbrev flagged : Bool → List (List ℕ) → Result (Bool × List (List ℕ)) LdifFaultKind
flagged flag ls = Ok (flag, ls)

renaming_only : (dn : List ℕ) (cs : List Control) (ls : List (List ℕ)) (r : Record) → IsRenaming dn cs ls r → renaming dn cs ls ≡ Ok r
unfolding renaming delete_old_of
renaming_only dn cs ls r h =
    ap (renaming dn cs) h.is
    ∙ ap (λ (x : Result Part LdifFaultKind). x >>= λ newrdn. delete_old_of newrdn.1 >>= λ old. new_superior_of old.1 >>= λ sup. okay (renamed dn cs newrdn.0 old.0 sup)) (part_only (codes "newrdn") h.first h.newrdn (h.second ∷ h.more) h.newrdn_line)
    ∙ ap (λ (x : Result Part LdifFaultKind). (x >>= λ word. flag_of word.0 >>= λ flag. flagged flag word.1) >>= λ old. new_superior_of old.1 >>= λ sup. okay (renamed dn cs h.newrdn old.0 sup)) (part_only (codes "deleteoldrdn") h.second h.flag h.more h.flag_line)
    ∙ ap (λ (x : Result Bool LdifFaultKind). (x >>= λ flag. flagged flag h.more) >>= λ old. new_superior_of old.1 >>= λ sup. okay (renamed dn cs h.newrdn old.0 sup)) (flag_only h.flag h.delete_old h.flag_is)
    ∙ ap (λ (x : Result (Option (List ℕ)) LdifFaultKind). x >>= λ sup. okay (renamed dn cs h.newrdn h.delete_old sup)) (superior_only h.more h.new_superior h.superior)
    ∙ ap okay (sym h.record_is)

module _ (dn : List ℕ) (cs : List Control) (word : List ℕ) (ls : List (List ℕ)) (r : Record) where
  abbrev added : Result Record LdifFaultKind
  added = each value_line ls >>= λ attrs. Ok (records.Add dn cs attrs)

  abbrev deleted : Result Record LdifFaultKind
  deleted = nothing_more ls >>= λ u. Ok (records.Delete dn cs)

  abbrev modified : Result Record LdifFaultKind
  modified = each block (blocks ls) >>= λ ms. Ok (records.Modify dn cs ms)

  abbrev tests : Bool → Bool → Bool → Bool → Bool → Result Record LdifFaultKind
  tests add delete modify modrdn moddn =
      cond add added (cond delete deleted (cond modify modified (cond modrdn (renaming dn cs ls) (cond moddn (renaming dn cs ls) (Err ChangetypeUnknown)))))

  add_found : AreBytes ls → added ≡ Ok r → IsAdd dn cs ls r
  add_found bytes h =
      let a = bind_ok (each value_line ls) (λ attrs. Ok (records.Add dn cs attrs)) r h in
      record { attrs = a.0; lines_are = attrs_found ls a.0 bytes a.1; record_is = sym (ok_is (records.Add dn cs a.0) r a.2) }

  delete_found : deleted ≡ Ok r → IsDelete dn cs ls r
  delete_found h =
      let n = bind_ok (nothing_more ls) (λ u. Ok (records.Delete dn cs)) r h in
      record { none = nothing_found ls n.0 n.1; record_is = sym (ok_is (records.Delete dn cs) r n.2) }

  modify_found : AreBytes ls → modified ≡ Ok r → IsModify dn cs ls r
  modify_found bytes h =
      let m = bind_ok (each block (blocks ls)) (λ ms. Ok (records.Modify dn cs ms)) r h in
      record { mods = m.0; blocks = mods_found ls m.0 bytes m.1; record_is = sym (ok_is (records.Modify dn cs m.0) r m.2) }

  abbrev is : List ℕ → Bool
  is w = is_word word w

  pub change_found : AreBytes ls → change dn cs word ls ≡ Ok r → IsChange dn cs word ls r
  unfolding change
  change_found bytes h = elim (chosen (is (codes "add")) added (tests false (is (codes "delete")) (is (codes "modify")) (is (codes "modrdn")) (is (codes "moddn"))) (Ok r) h) [
    | inl a ↦ inl (word_found word (codes "add") a.0, add_found bytes a.1)
    | inr a ↦ inr (elim (chosen (is (codes "delete")) deleted (tests false false (is (codes "modify")) (is (codes "modrdn")) (is (codes "moddn"))) (Ok r) a.1) [
      | inl d ↦ inl (word_found word (codes "delete") d.0, delete_found d.1)
      | inr d ↦ inr (elim (chosen (is (codes "modify")) modified (tests false false false (is (codes "modrdn")) (is (codes "moddn"))) (Ok r) d.1) [
        | inl m ↦ inl (word_found word (codes "modify") m.0, modify_found bytes m.1)
        | inr m ↦ inr (elim (chosen (is (codes "modrdn")) (renaming dn cs ls) (tests false false false false (is (codes "moddn"))) (Ok r) m.1) [
          | inl n ↦ (inl (word_found word (codes "modrdn") n.0), renaming_found dn cs ls r bytes n.1)
          | inr n ↦ (let o = good (is (codes "moddn")) (renaming dn cs ls) ChangetypeUnknown r n.1 in (inr (word_found word (codes "moddn") o.0), renaming_found dn cs ls r bytes o.1))
        ])
      ])
    ])
  ]

  other : (w v : List ℕ) → IsWord word w → bytes_eq (lower w) (lower v) ≡ false → is v ≡ false
  other w v h e = word_other word w v h e

  pub change_only : IsChange dn cs word ls r → change dn cs word ls ≡ Ok r
  unfolding change
  change_only (inl (w, a)) =
      ap (λ (t : Bool). tests t (is (codes "delete")) (is (codes "modify")) (is (codes "modrdn")) (is (codes "moddn"))) (word_only word (codes "add") w)
      ∙ ap (λ (x : Result (List Attr) LdifFaultKind). x >>= λ attrs. okay (records.Add dn cs attrs)) (attrs_only ls a.attrs a.lines_are)
      ∙ ap okay (sym a.record_is)
  change_only (inr (inl (w, d))) =
      ap (λ (t : Bool). tests t (is (codes "delete")) (is (codes "modify")) (is (codes "modrdn")) (is (codes "moddn"))) (other (codes "delete") (codes "add") w refl)
      ∙ ap (λ (t : Bool). tests false t (is (codes "modify")) (is (codes "modrdn")) (is (codes "moddn"))) (word_only word (codes "delete") w)
      ∙ ap (λ (x : Result (Unit {0}) LdifFaultKind). x >>= λ u. okay (records.Delete dn cs)) (nothing_only ls d.none)
      ∙ ap okay (sym d.record_is)
  change_only (inr (inr (inl (w, m)))) =
      ap (λ (t : Bool). tests t (is (codes "delete")) (is (codes "modify")) (is (codes "modrdn")) (is (codes "moddn"))) (other (codes "modify") (codes "add") w refl)
      ∙ ap (λ (t : Bool). tests false t (is (codes "modify")) (is (codes "modrdn")) (is (codes "moddn"))) (other (codes "modify") (codes "delete") w refl)
      ∙ ap (λ (t : Bool). tests false false t (is (codes "modrdn")) (is (codes "moddn"))) (word_only word (codes "modify") w)
      ∙ ap (λ (x : Result (List Mod) LdifFaultKind). x >>= λ ms. okay (records.Modify dn cs ms)) (mods_only m.mods ls m.blocks)
      ∙ ap okay (sym m.record_is)
  change_only (inr (inr (inr (inl w, n)))) =
      ap (λ (t : Bool). tests t (is (codes "delete")) (is (codes "modify")) (is (codes "modrdn")) (is (codes "moddn"))) (other (codes "modrdn") (codes "add") w refl)
      ∙ ap (λ (t : Bool). tests false t (is (codes "modify")) (is (codes "modrdn")) (is (codes "moddn"))) (other (codes "modrdn") (codes "delete") w refl)
      ∙ ap (λ (t : Bool). tests false false t (is (codes "modrdn")) (is (codes "moddn"))) (other (codes "modrdn") (codes "modify") w refl)
      ∙ ap (λ (t : Bool). tests false false false t (is (codes "moddn"))) (word_only word (codes "modrdn") w)
      ∙ renaming_only dn cs ls r n
  change_only (inr (inr (inr (inr w, n)))) =
      ap (λ (t : Bool). tests t (is (codes "delete")) (is (codes "modify")) (is (codes "modrdn")) (is (codes "moddn"))) (other (codes "moddn") (codes "add") w refl)
      ∙ ap (λ (t : Bool). tests false t (is (codes "modify")) (is (codes "modrdn")) (is (codes "moddn"))) (other (codes "moddn") (codes "delete") w refl)
      ∙ ap (λ (t : Bool). tests false false t (is (codes "modrdn")) (is (codes "moddn"))) (other (codes "moddn") (codes "modify") w refl)
      ∙ ap (λ (t : Bool). tests false false false t (is (codes "moddn"))) (other (codes "moddn") (codes "modrdn") w refl)
      ∙ ap (λ (t : Bool). tests false false false false t) (word_only word (codes "moddn") w)
      ∙ renaming_only dn cs ls r n
