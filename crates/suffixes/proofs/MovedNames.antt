-- The name of an entry with another suffix in place of its own.
use Rattle.std.proofs.Common.{◌≡◌, ℕ, ◌-◌, ◌<◌, List, [], ◌∷◌, ◌++◌, length, map, reverse, take, refl, sym, ap, ◌∙◌, append_assoc, arith}
use Rattle.std.specs.List.{flat_map, join_with_byte}
use Rattle.std.proofs.lemmas.List.{length-append, length-map, map-append, take_at}
use Rattle.dn.specs.Names as names
use Rattle.dn.specs.Writing.{rdn_text, text_of}
use Rattle.values.specs.declared.types.AttributeType.{AttributeType}
use Rattle.schema.specs.Rdns.{TypedRdn}
use Rattle.schema.specs.Names.{written_rdn}
use Rattle.schema.specs.Conf.{Conf, name_text}

abbrev texts : List AttributeType → List TypedRdn → List (List ℕ)
texts types rs = map rdn_text (map (written_rdn types) rs)

-- texts, a comma behind each
abbrev front : List (List ℕ) → List ℕ
front xs = flat_map (λ x. x ++ 44 ∷ []) xs

join_cons : (x : List ℕ) (xs : List (List ℕ)) → 0 < length xs → join_with_byte 44 (x ∷ xs) ≡ x ++ 44 ∷ join_with_byte 44 xs
join_cons x [] some = absurd (omega arith)
join_cons x (y ∷ ys) some = refl

joined : (xs ys : List (List ℕ)) → 0 < length ys → join_with_byte 44 (xs ++ ys) ≡ front xs ++ join_with_byte 44 ys
joined [] ys some = refl
joined (x ∷ xs) ys some =
    join_cons x (xs ++ ys) (omega (arith, length-append xs ys))
    ∙ ap (λ (t : List ℕ). x ++ 44 ∷ t) (joined xs ys some)
    ∙ sym (append_assoc x (44 ∷ []) (front xs ++ join_with_byte 44 ys))
    ∙ sym (append_assoc (x ++ 44 ∷ []) (front xs) (join_with_byte 44 ys))

module _ (types : List AttributeType) (rs : List TypedRdn) where
  -- the RDNs below the suffix, a comma behind each
  abbrev rdns_front : List ℕ
  rdns_front = front (texts types (reverse rs))

  name_is : (suffix : List TypedRdn) → 0 < length suffix → text_of (map (written_rdn types) (reverse rs ++ suffix)) ≡ rdns_front ++ text_of (map (written_rdn types) suffix)
  unfolding text_of
  name_is suffix some =
      ap (λ (n : names.Name). join_with_byte 44 (map rdn_text n)) (map-append (written_rdn types) (reverse rs) suffix)
      ∙ ap (join_with_byte 44) (map-append rdn_text (map (written_rdn types) (reverse rs)) (map (written_rdn types) suffix))
      ∙ joined (texts types (reverse rs)) (texts types suffix) (omega (arith, length-map (map (written_rdn types) suffix) rdn_text, length-map suffix (written_rdn types)))

  module _ (old new : List TypedRdn) (some : 0 < length old) (more : 0 < length new) (name : List ℕ) (is : name ≡ text_of (map (written_rdn types) (reverse rs ++ old))) where
    parts : name ≡ rdns_front ++ text_of (map (written_rdn types) old)
    parts = is ∙ name_is old some

    before : take (length name - length (text_of (map (written_rdn types) old))) name ≡ rdns_front
    before =
        let long : length rdns_front ≡ length name - length (text_of (map (written_rdn types) old)) =
        omega (arith, ap length parts, length-append rdns_front (text_of (map (written_rdn types) old))) in
        ap (take (length name - length (text_of (map (written_rdn types) old)))) parts
        ∙ take_at rdns_front (text_of (map (written_rdn types) old)) (length name - length (text_of (map (written_rdn types) old))) long

    moved : take (length name - length (text_of (map (written_rdn types) old))) name ++ text_of (map (written_rdn types) new) ≡ text_of (map (written_rdn types) (reverse rs ++ new))
    moved = ap (λ (t : List ℕ). t ++ text_of (map (written_rdn types) new)) before ∙ sym (name_is new more)

-- the suffix's text at the end of a name gives way to another one's
pub moved_name : (conf new : Conf) (rs : List TypedRdn) (name : List ℕ) → new.types ≡ conf.types → 0 < length conf.suffix → 0 < length new.suffix → name ≡ name_text conf rs
    → take (length name - length (text_of (map (written_rdn conf.types) conf.suffix))) name ++ text_of (map (written_rdn new.types) new.suffix) ≡ name_text new rs
unfolding name_text
moved_name conf new rs name same some more is =
    ap (λ (types : List AttributeType). take (length name - length (text_of (map (written_rdn conf.types) conf.suffix))) name ++ text_of (map (written_rdn types) new.suffix)) same
    ∙ moved conf.types rs conf.suffix new.suffix some more name is
    ∙ ap (λ (types : List AttributeType). text_of (map (written_rdn types) (reverse rs ++ new.suffix))) (sym same)
