-- Reading has the faults of the walk.
use Rattle.std.proofs.Common.{◌≡◌, ℕ, Bool, true, false, cond, List, [], ◌∷◌, Option, Some, None, Result, Ok, Err, codes, refl, sym, ap, ◌∙◌}
use Rattle.std.specs.Str.{bytes_eq}
use Rattle.ldif.specs.declared.fault.LdifFaultKind.{LdifFaultKind}
use Rattle.ldif.specs.declared.fault.LdifFaultKind.TheVariants.{DnMissing, Version, ChangetypeUnknown, OtherAttribute, PartMissing, StrayLine, ChangetypeMissing, ChangetypeInContent}
use Rattle.ldif.specs.Attrs.{Attr}
use Rattle.ldif.specs.declared.record.Control.{Control}
use Rattle.ldif.specs.declared.record.Mod.{Mod}
use Rattle.ldif.specs.declared.record.Mode.{Mode}
use Rattle.ldif.specs.declared.record.Mode.TheVariants.{Content, Changes}
use Rattle.ldif.specs.declared.record.Record.{Record}
use Rattle.ldif.specs.declared.record.Record.TheVariants as records
use Rattle.ldif.specs.Line.{value_line, same_name, is_word}
use Rattle.ldif.specs.Controls.{control_of}
use Rattle.ldif.specs.Reading.{content_line, part, nothing_more, new_superior_of, flag_of, delete_old_of, controls_of, is_dash, blocks, op_of, block, renaming, change, after_controls, body, entry, after_version, first_of_text, reading}
use Rattle.ldif.specs.Places as places
use Rattle.ldif.specs.Places.{Place, start, body_place}
use Rattle.ldif.specs.Steps.{Done, step, told, dn_told, change_told, finish}
use Rattle.ldif.proofs.Ways.{done, walk}
use Rattle.ldif.proofs.RecordLines.{Lines, old, old_tail, old_by, new_tail, new_by, read_blocks, read_values, values_line, values_dash, with_value, block_tail, blocks_line, blocks_dash, dash_line, first_values, made, untyped, typed, tail, changes, changes_by}
use Rattle.base.specs.Answers.{◌>>=◌, each}
use Rattle.base.specs.Ends.{without_end}

unfoldable pub fault_of : {X : Type 0} → Result X LdifFaultKind → Option LdifFaultKind
fault_of (Ok x) = None
fault_of (Err f) = Some f

pub fault_is : {X Y : Type 0} (r : Result X LdifFaultKind) (q : Result Y LdifFaultKind) (f : LdifFaultKind) → fault_of r ≡ fault_of q → r ≡ Err f → q ≡ Err f
unfolding fault_of
fault_is r (Ok y) f e h = absurd (let k : fault_of r ≡ Some f = ap fault_of h in let m : None ≡ Some f = sym e ∙ k in cc)
fault_is {X} {Y} r (Err g) f e h = (let k : fault_of r ≡ Some f = ap fault_of h in let m : Some g ≡ Some f = sym e ∙ k in let n : g ≡ f = cc in ap bad n)
  where
    bad : LdifFaultKind → Result Y LdifFaultKind
    bad g = Err g

abbrev okay : {A : Type 0} → A → Result A LdifFaultKind
okay x = Ok x

abbrev failed : {A : Type 0} → LdifFaultKind → Result A LdifFaultKind
failed f = Err f

mapped : {X Y : Type 0} (r : Result X LdifFaultKind) (h : X → Y) → fault_of (r >>= λ x. okay (h x)) ≡ fault_of r
unfolding fault_of
mapped (Ok x) h = refl
mapped (Err f) h = refl

here : (Y : Type 0) (next : Place → Done) (f : LdifFaultKind) → fault_of (failed {A = Y} f) ≡ fault_of (failed f >>= next)
unfolding fault_of
here Y next f = refl

module _ {Y : Type 0} (next : Place → Done) where
  at_line : (r : Result Attr LdifFaultKind) (k : Attr → Result Y LdifFaultKind) (s : Attr → Result Place LdifFaultKind) → ((a : Attr) → r ≡ Ok a → fault_of (k a) ≡ fault_of (s a >>= next)) → fault_of (r >>= k) ≡ fault_of ((r >>= s) >>= next)
  unfolding fault_of
  at_line (Ok a) k s h = h a refl
  at_line (Err f) k s h = refl

  branch : (t : Bool) (k m : Result Y LdifFaultKind) (s u : Result Place LdifFaultKind) → fault_of k ≡ fault_of (s >>= next) → fault_of m ≡ fault_of (u >>= next) → fault_of (cond t k m) ≡ fault_of (cond t s u >>= next)
  branch true k m s u h g = h
  branch false k m s u h g = g

  gate : (t : Bool) (k : Result Y LdifFaultKind) (p : Place) (f : LdifFaultKind) → fault_of k ≡ fault_of (next p) → fault_of (cond t k (failed f)) ≡ fault_of (cond t (okay p) (failed f) >>= next)
  gate t k p f h = branch t k (failed f) (okay p) (failed f) h (here Y next f)

  fixed : {X : Type 0} (r : Result X LdifFaultKind) (k : X → Result Y LdifFaultKind) (p : Place) → ((x : X) → fault_of (k x) ≡ fault_of (next p)) → fault_of (r >>= k) ≡ fault_of ((r >>= λ x. okay p) >>= next)
  unfolding fault_of
  fixed (Ok x) k p h = h x
  fixed (Err f) k p h = refl

-- ---- places

module _ (mode : Mode) where
  abbrev onward : Lines → Place → Done
  onward ls q = walk mode q ls

  nothing_walk : (ls : Lines) → fault_of (nothing_more ls) ≡ fault_of (walk mode places.over ls)
  unfolding fault_of nothing_more walk finish step told
  nothing_walk [] = refl
  nothing_walk (l ∷ ls) = at_line (onward ls) (value_line l) (λ a. failed StrayLine) (told mode places.over) (λ a e. refl)

  superior_walk : (ls : Lines) → fault_of (new_superior_of ls) ≡ fault_of (walk mode places.new_superior ls)
  unfolding fault_of new_superior_of walk finish step told
  superior_walk [] = refl
  superior_walk (l ∷ ls) =
      at_line (onward ls) (value_line l) (λ a. cond (same_name a.name (codes "newsuperior")) (nothing_more ls >>= λ u. okay (Some a.value)) (failed StrayLine)) (told mode places.new_superior) (λ a e.
      gate (onward ls) (same_name a.name (codes "newsuperior")) (nothing_more ls >>= λ u. okay (Some a.value)) places.over StrayLine
      (mapped (nothing_more ls) (λ u. Some a.value) ∙ nothing_walk ls))

  old_walk : (dn : List ℕ) (cs : List Control) (newrdn : List ℕ) (ls : Lines) → fault_of (old dn cs newrdn ls) ≡ fault_of (walk mode places.delete_old ls)
  unfolding fault_of old delete_old_of part old_tail walk finish step told
  old_walk dn cs newrdn [] = refl
  old_walk dn cs newrdn (l ∷ ls) =
      ap fault_of (old_by dn cs newrdn ls (value_line l))
      ∙ at_line (onward ls) (value_line l) (λ a. old_tail dn cs newrdn a ls) (told mode places.delete_old) (λ a e.
      branch (onward ls) (same_name a.name (codes "deleteoldrdn")) (flag_of a.value >>= λ f. new_superior_of ls >>= λ s. okay (records.ModRdn dn cs newrdn f s)) (failed PartMissing) (flag_of a.value >>= λ f. okay places.new_superior) (failed PartMissing)
      (fixed (onward ls) (flag_of a.value) (λ f. new_superior_of ls >>= λ s. okay (records.ModRdn dn cs newrdn f s)) places.new_superior (λ f. mapped (new_superior_of ls) (λ s. records.ModRdn dn cs newrdn f s) ∙ superior_walk ls))
      (here Record (onward ls) PartMissing))

  renaming_walk : (dn : List ℕ) (cs : List Control) (ls : Lines) → fault_of (renaming dn cs ls) ≡ fault_of (walk mode places.new_name ls)
  unfolding fault_of renaming part new_tail walk finish step told
  renaming_walk dn cs [] = refl
  renaming_walk dn cs (l ∷ ls) =
      ap fault_of (new_by dn cs ls (value_line l))
      ∙ at_line (onward ls) (value_line l) (λ a. new_tail dn cs a ls) (told mode places.new_name) (λ a e.
      gate (onward ls) (same_name a.name (codes "newrdn")) (old dn cs a.value ls) places.delete_old PartMissing (old_walk dn cs a.value ls))

  attributes_walk : (ls : Lines) → fault_of (each value_line ls) ≡ fault_of (walk mode places.attributes ls)
  unfolding fault_of each walk finish step told
  attributes_walk [] = refl
  attributes_walk (l ∷ ls) =
      at_line (onward ls) (value_line l) (λ a. each value_line ls >>= λ ys. okay (a ∷ ys)) (told mode places.attributes) (λ a e.
      mapped (each value_line ls) (λ ys. a ∷ ys) ∙ attributes_walk ls)

  content_by : (l : List ℕ) (ls : Lines) (r : Result Attr LdifFaultKind) (next : Done)
      → ((r >>= λ a. cond (same_name a.name (codes "changetype")) (failed ChangetypeInContent) (okay a)) >>= λ y. each content_line ls >>= λ ys. okay (y ∷ ys))
      ≡ (r >>= λ a. cond (same_name a.name (codes "changetype")) (failed ChangetypeInContent) (each content_line ls >>= λ ys. okay (a ∷ ys)))
  content_by l ls (Err f) next = refl
  content_by l ls (Ok a) next = elim (same_name a.name (codes "changetype")) as (λ t. (cond t (failed ChangetypeInContent) (okay a) >>= λ y. each content_line ls >>= λ ys. okay (y ∷ ys)) ≡ cond t (failed ChangetypeInContent) (each content_line ls >>= λ ys. okay (a ∷ ys))) [
    | true ↦ refl
    | false ↦ refl
  ]

  contents_walk : (ls : Lines) → fault_of (each content_line ls) ≡ fault_of (walk mode places.contents ls)
  unfolding fault_of each content_line walk finish step told
  contents_walk [] = refl
  contents_walk (l ∷ ls) =
      ap fault_of (content_by l ls (value_line l) (Ok tt))
      ∙ at_line (onward ls) (value_line l) (λ a. cond (same_name a.name (codes "changetype")) (failed ChangetypeInContent) (each content_line ls >>= λ ys. okay (a ∷ ys))) (told mode places.contents) (λ a e.
      branch (onward ls) (same_name a.name (codes "changetype")) (failed ChangetypeInContent) (each content_line ls >>= λ ys. okay (a ∷ ys)) (failed ChangetypeInContent) (okay places.contents)
      (here (List Attr) (onward ls) ChangetypeInContent) (mapped (each content_line ls) (λ ys. a ∷ ys) ∙ contents_walk ls))

  -- ---- blocks

  abbrev BlocksWalk : Lines → Type 0
  BlocksWalk ls = fault_of (read_blocks ls) ≡ fault_of (walk mode places.block_start ls)

  abbrev ValuesWalk : Lines → Type 0
  ValuesWalk ls = (name : List ℕ) (g : List (List ℕ) → Mod) → fault_of (read_values name g ls) ≡ fault_of (walk mode (places.block_values name) ls)

  blocks_next : (l : List ℕ) (ls : Lines) → ValuesWalk ls → (t : Bool) → is_dash l ≡ t → BlocksWalk (l ∷ ls)
  unfolding fault_of walk step told
  blocks_next l ls values true e =
      ap fault_of (blocks_dash l ls e)
      ∙ sym (ap (λ (r : Result Attr LdifFaultKind). fault_of ((r >>= told mode places.block_start) >>= onward ls)) (dash_line l e))
  blocks_next l ls values false e =
      ap fault_of (blocks_line l ls e)
      ∙ at_line (onward ls) (value_line l) (λ a. block_tail a ls) (told mode places.block_start) (λ a k.
      fixed (onward ls) (op_of a.name) (λ op. read_values (without_end a.value) (made op (without_end a.value)) ls) (places.block_values (without_end a.value)) (λ op. values (without_end a.value) (made op (without_end a.value))))

  values_next : (l : List ℕ) (ls : Lines) → BlocksWalk ls → ValuesWalk ls → (t : Bool) → is_dash l ≡ t → ValuesWalk (l ∷ ls)
  unfolding fault_of walk step told
  values_next l ls more values true e name g =
      ap fault_of (values_dash name g l ls e) ∙ mapped (read_blocks ls) (λ ms. g [] ∷ ms) ∙ more
      ∙ sym (ap (λ (t : Bool). fault_of (cond t (okay places.block_start) (value_line l >>= told mode (places.block_values name)) >>= onward ls)) e)
  values_next l ls more values false e name g =
      ap fault_of (values_line name g l ls e)
      ∙ at_line (onward ls) (value_line l) (λ a. cond (same_name a.name name) (read_values name (with_value g a.value) ls) (failed OtherAttribute)) (told mode (places.block_values name)) (λ a k.
      gate (onward ls) (same_name a.name name) (read_values name (with_value g a.value) ls) (places.block_values name) OtherAttribute (values name (with_value g a.value)))
      ∙ sym (ap (λ (t : Bool). fault_of (cond t (okay places.block_start) (value_line l >>= told mode (places.block_values name)) >>= onward ls)) e)

  no_blocks : BlocksWalk []
  unfolding fault_of walk finish each blocks
  no_blocks = refl

  no_values : ValuesWalk []
  unfolding fault_of walk finish blocks first_values
  no_values name g = refl

  blocks_walk : (ls : Lines) → BlocksWalk ls × ValuesWalk ls
  blocks_walk [] = (no_blocks, no_values)
  blocks_walk (l ∷ ls) = let ih = blocks_walk ls in (blocks_next l ls ih.1 (is_dash l) refl, values_next l ls ih.0 ih.1 (is_dash l) refl)

  -- ---- changes

  change_walk : (dn : List ℕ) (cs : List Control) (w : List ℕ) (ls : Lines) → fault_of (change dn cs w ls) ≡ fault_of (change_told w >>= onward ls)
  unfolding change change_told
  change_walk dn cs w ls =
      let n = onward ls in
      let rename = renaming dn cs ls in
      let unknown = failed {A = Record} ChangetypeUnknown in
      let lost = failed {A = Place} ChangetypeUnknown in
      let moddn = cond (is_word w (codes "moddn")) rename unknown in
      let moddn_told = cond (is_word w (codes "moddn")) (okay places.new_name) lost in
      let modrdn = cond (is_word w (codes "modrdn")) rename moddn in
      let modrdn_told = cond (is_word w (codes "modrdn")) (okay places.new_name) moddn_told in
      let modified = each block (blocks ls) >>= λ ms. okay (records.Modify dn cs ms) in
      let modify = cond (is_word w (codes "modify")) modified modrdn in
      let modify_told = cond (is_word w (codes "modify")) (okay places.block_start) modrdn_told in
      let deleted = nothing_more ls >>= λ u. okay (records.Delete dn cs) in
      let delete = cond (is_word w (codes "delete")) deleted modify in
      let delete_told = cond (is_word w (codes "delete")) (okay places.over) modify_told in
      branch n (is_word w (codes "add")) (each value_line ls >>= λ attrs. okay (records.Add dn cs attrs)) delete (okay places.attributes) delete_told
      (mapped (each value_line ls) (λ attrs. records.Add dn cs attrs) ∙ attributes_walk ls)
      (branch n (is_word w (codes "delete")) deleted modify (okay places.over) modify_told
      (mapped (nothing_more ls) (λ u. records.Delete dn cs) ∙ nothing_walk ls)
      (branch n (is_word w (codes "modify")) modified modrdn (okay places.block_start) modrdn_told
      (mapped (each block (blocks ls)) (λ ms. records.Modify dn cs ms) ∙ (blocks_walk ls).0)
      (branch n (is_word w (codes "modrdn")) rename moddn (okay places.new_name) moddn_told (renaming_walk dn cs ls)
      (gate n (is_word w (codes "moddn")) rename places.new_name ChangetypeUnknown (renaming_walk dn cs ls)))))

  untyped_walk : (add : Bool) (dn : List ℕ) (cs : List Control) (l : List ℕ) (a : Attr) (ls : Lines) → value_line l ≡ Ok a → fault_of (untyped add dn cs l ls) ≡ fault_of (walk mode places.attributes ls)
  unfolding each
  untyped_walk add dn cs l a ls e =
      mapped (each value_line (l ∷ ls)) (λ attrs. records.Add dn cs attrs)
      ∙ ap (λ (r : Result Attr LdifFaultKind). fault_of (r >>= λ y. each value_line ls >>= λ ys. okay (y ∷ ys))) e
      ∙ mapped (each value_line ls) (λ ys. a ∷ ys) ∙ attributes_walk ls

  changes_end : (add : Bool) (dn : List ℕ) (cs : List Control) → fault_of (cond add (okay (records.Add dn cs [])) (failed ChangetypeMissing)) ≡ fault_of (cond add done (failed ChangetypeMissing))
  unfolding fault_of
  changes_end true dn cs = refl
  changes_end false dn cs = refl

  changes_walk : (add : Bool) (dn : List ℕ) (f : List Control → List Control) (ls : Lines) → fault_of (changes add dn f ls) ≡ fault_of (walk mode (places.changes add) ls)
  unfolding changes controls_of after_controls walk finish step told
  changes_walk add dn f [] = changes_end add dn (f [])
  changes_walk add dn f (l ∷ ls) =
      let n = onward ls in
      ap fault_of (changes_by add dn f l ls (value_line l) refl)
      ∙ at_line n (value_line l) (λ a. tail add dn f l a ls) (told mode (places.changes add)) (λ a e.
      branch n (same_name a.name (codes "control")) (control_of a.value >>= λ c. changes add dn (λ cs. f (c ∷ cs)) ls) (typed add dn (f []) l a ls)
      (control_of a.value >>= λ c. okay (places.changes add)) (cond (same_name a.name (codes "changetype")) (change_told a.value) (cond add (okay places.attributes) (failed ChangetypeMissing)))
      (fixed n (control_of a.value) (λ c. changes add dn (λ cs. f (c ∷ cs)) ls) (places.changes add) (λ c. changes_walk add dn (λ cs. f (c ∷ cs)) ls))
      (branch n (same_name a.name (codes "changetype")) (change dn (f []) a.value ls) (cond add (untyped add dn (f []) l ls) (failed ChangetypeMissing)) (change_told a.value) (cond add (okay places.attributes) (failed ChangetypeMissing))
      (change_walk dn (f []) a.value ls)
      (gate n add (untyped add dn (f []) l ls) places.attributes ChangetypeMissing (untyped_walk add dn (f []) l a ls e))))

-- ---- records

body_walk : (mode : Mode) (dn : List ℕ) (ls : Lines) → fault_of (body mode dn ls) ≡ fault_of (walk mode (body_place mode) ls)
unfolding body changes
body_walk Content dn ls = mapped (each content_line ls) (λ attrs. records.Content dn attrs) ∙ contents_walk Content ls
body_walk (Changes add) dn ls = changes_walk (Changes add) add dn (λ cs. cs) ls

module _ (mode : Mode) where
  dn_walk : (a : Attr) (ls : Lines) → fault_of (cond (same_name a.name (codes "dn")) (body mode a.value ls) (failed DnMissing)) ≡ fault_of (dn_told mode a >>= λ q. walk mode q ls)
  unfolding dn_told
  dn_walk a ls = gate (λ q. walk mode q ls) (same_name a.name (codes "dn")) (body mode a.value ls) (body_place mode) DnMissing (body_walk mode a.value ls)

  entry_walk : (ls : Lines) → fault_of (entry mode ls) ≡ fault_of (walk mode places.record_start ls)
  unfolding fault_of entry walk finish step told
  entry_walk [] = refl
  entry_walk (l ∷ ls) = at_line (λ q. walk mode q ls) (value_line l) (λ a. cond (same_name a.name (codes "dn")) (body mode a.value ls) (failed DnMissing)) (told mode places.record_start) (λ a e. dn_walk a ls)

  version_walk : (ls : Lines) → fault_of (after_version mode ls) ≡ fault_of (walk mode places.after_version ls)
  unfolding fault_of after_version entry walk finish step told
  version_walk [] = refl
  version_walk (l ∷ ls) = at_line (λ q. walk mode q ls) (value_line l) (λ a. cond (same_name a.name (codes "dn")) (body mode a.value ls) (failed DnMissing)) (told mode places.after_version) (λ a e. dn_walk a ls)

  entry_here : (l : List ℕ) (a : Attr) (ls : Lines) → value_line l ≡ Ok a → fault_of (entry mode (l ∷ ls)) ≡ fault_of (dn_told mode a >>= λ q. walk mode q ls)
  unfolding entry
  entry_here l a ls e = ap (λ (r : Result Attr LdifFaultKind). fault_of (r >>= λ a. cond (same_name a.name (codes "dn")) (body mode a.value ls) (failed DnMissing))) e ∙ dn_walk a ls

  first_walk : (ls : Lines) → fault_of (first_of_text mode ls) ≡ fault_of (walk mode places.text_start ls)
  unfolding fault_of first_of_text walk finish step told
  first_walk [] = refl
  first_walk (l ∷ ls) =
      let n = λ (q : Place). walk mode q ls in
      at_line n (value_line l) (λ a. cond (same_name a.name (codes "version")) (cond (bytes_eq a.value (codes "1")) (after_version mode ls) (failed Version)) (entry mode (l ∷ ls))) (told mode places.text_start) (λ a e.
      branch n (same_name a.name (codes "version")) (cond (bytes_eq a.value (codes "1")) (after_version mode ls) (failed Version)) (entry mode (l ∷ ls)) (cond (bytes_eq a.value (codes "1")) (okay places.after_version) (failed Version)) (dn_told mode a)
      (gate n (bytes_eq a.value (codes "1")) (after_version mode ls) places.after_version Version (version_walk ls))
      (entry_here l a ls e))

pub reading_walk : (mode : Mode) (first : Bool) (ls : Lines) → fault_of (reading mode first ls) ≡ fault_of (walk mode (start first) ls)
reading_walk mode true ls = first_walk mode ls
reading_walk mode false ls = entry_walk mode ls
