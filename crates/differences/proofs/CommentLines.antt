-- The comments are comments.
use Rattle.std.proofs.Common.{◌≡◌, ℕ, Bool, true, false, cond, List, [], ◌∷◌, ◌++◌, map, length, codes, refl, ap, ◌∙◌}
use Rattle.std.specs.Prelude.{◌==◌}
use Rattle.std.specs.List.{list_all, AllByRecursion}
use Rattle.base.specs.Ends.{begins_with}
use Rattle.base64.specs.GeneralPurpose.{encode_of}
use Rattle.base64.specs.Engines.{standard}
use Rattle.ldif_lines.specs.Folding.{is_line_byte, IsComment}
use Rattle.ldif.specs.declared.record.Record.{Record}
use Rattle.ldif.specs.declared.record.Record.TheVariants as kinds
use Rattle.ldif.specs.Changes.{IsWritableChange, IsWritableComment, change_of}
use Rattle.ldif.specs.Contents.{IsName}
use Rattle.ldif.specs.Writing.{is_plain, line_text}
use Rattle.ldif.proofs.WrittenLines.{writable}
use Rattle.differences.specs.Comments.{mods_words, comment_of, commented}

-- a line by its two tests
abbrev tested : Bool → Bool → List ℕ → List ℕ → List ℕ
tested empty plain name value = cond empty (name ++ codes ":") (cond plain (name ++ codes ": " ++ value) (name ++ codes ":: " ++ encode_of standard value))

-- the line of a name with two bytes more in front
behind_two : (a b : ℕ) (name value : List ℕ) → line_text (a ∷ b ∷ name) value ≡ a ∷ b ∷ line_text name value
unfolding line_text
behind_two a b name value = by (length value == 0) (is_plain value)
  where
    by : (empty plain : Bool) → tested empty plain (a ∷ b ∷ name) value ≡ a ∷ b ∷ tested empty plain name value
    by true plain = refl
    by false true = refl
    by false false = refl

noted : (kind words : List ℕ) → IsName kind → IsComment (line_text (35 ∷ 32 ∷ kind) words)
noted kind words is =
    let line = behind_two 35 32 kind words in
    record { begins = ap (begins_with 35) line; bytes = ap (list_all is_line_byte) line ∙ (writable kind words is).bytes }

add_name : IsName (codes "add")
add_name = record { begins = refl; bytes = refl }

delete_name : IsName (codes "delete")
delete_name = record { begins = refl; bytes = refl }

modify_name : IsName (codes "modify")
modify_name = record { begins = refl; bytes = refl }

rename_name : IsName (codes "modrdn")
rename_name = record { begins = refl; bytes = refl }

comment_is : (r : Record) → IsWritableChange r → IsComment (comment_of r)
comment_is kinds.Empty h = absurd h
comment_is (kinds.Content dn attrs) h = absurd h
comment_is (kinds.Add dn controls attrs) h = noted (codes "add") (codes "a new entry") add_name
comment_is (kinds.Delete dn controls) h = noted (codes "delete") (codes "an entry that is gone") delete_name
comment_is (kinds.Modify dn controls mods) h = noted (codes "modify") (mods_words mods) modify_name
comment_is (kinds.ModRdn dn controls newrdn old o) h = noted (codes "modrdn") (codes "another spelling of the RDN") rename_name

pub all_commented : (rs : List Record) → AllByRecursion IsWritableChange rs → AllByRecursion IsWritableComment (map commented rs)
all_commented [] h = tt
all_commented (r ∷ rs) h = (record { comment = comment_is r h.0; change = h.0 }, all_commented rs h.1)

pub changes_are : (rs : List Record) → map change_of (map commented rs) ≡ rs
changes_are [] = refl
changes_are (r ∷ rs) = ap (λ (xs : List Record). r ∷ xs) (changes_are rs)
