use Rattle.std.proofs.Common.{List, ℕ, [], ◌∷◌, ◌++◌, codes, sym, ap, append_assoc, ◌∙◌}
use Rattle.base.proofs.Extended.{on_err_too}
use Rattle.base.specs.Ascii.{space, line_feed}
use Rattle.values.specs.Types.{name_of}
use Rattle.index_text.specs.IndexTexts.{kind_name, slot_line}
use Rattle.index_text.proofs.Putting.{then_put, put_as, part_begun, begun_as}
use Rattle.index_text.proofs.writing.put_slot.Goals as goal

pub returns-clause-put : goal.returns-clause-put
returns-clause-put c =
    let out = c.args.out.now.items in
    let name = name_of c.args.conf.now.types c.args.slot.now.type_id in
    let kind = kind_name c.args.slot.now.kind in
    then_put out (slot_line c.args.conf.now.types c.args.slot.now) (line_feed ∷ [])
    (then_put out (codes "slot ") (name ++ space ∷ kind) c.in_ok-extend_from_slice.ensures.items
    (then_put c.extend_from_slice.new.self.items name (space ∷ kind) (put_as c.extend_from_slice.new.self.items c.in_ok-extend_from_slice-2.ensures.items c.name.ensures)
    (then_put c.extend_from_slice-2.new.self.items (space ∷ []) kind c.in_ok-push.ensures.items (put_as c.push.new.self.items c.in_ok-extend_from_slice-3.ensures.items (c.as_bytes.ensures.value ∙ c.kind_name.ensures)))))
    c.in_ok-push-2.ensures.items

pub returns-in_err-extend_from_slice-2-clause-kept : goal.returns-in_err-extend_from_slice-2-clause-kept
returns-in_err-extend_from_slice-2-clause-kept c =
    let behind : List ℕ = name_of c.args.conf.now.types c.args.slot.now.type_id ++ space ∷ kind_name c.args.slot.now.kind ++ line_feed ∷ [] in
    on_err_too c.from_residual-in_err-extend_from_slice-2.result (part_begun (codes "slot ") behind c.args.out.now.items c.extend_from_slice.new.self.items _ c.in_ok-extend_from_slice.ensures.items c.in_err-extend_from_slice-2.ensures.items)

pub returns-in_err-push-clause-kept : goal.returns-in_err-push-clause-kept
returns-in_err-push-clause-kept c =
    let out = c.args.out.now.items in
    let name = name_of c.args.conf.now.types c.args.slot.now.type_id in
    let kind = kind_name c.args.slot.now.kind in
    on_err_too c.from_residual-in_err-push.result
    (begun_as out c.push.new.self.items (ap (λ (text : List ℕ). codes "slot " ++ text) (sym (append_assoc name (space ∷ kind) (line_feed ∷ []))))
    (part_begun (codes "slot " ++ name) (space ∷ kind ++ line_feed ∷ []) out c.extend_from_slice-2.new.self.items c.push.new.self.items
    (then_put out (codes "slot ") name c.in_ok-extend_from_slice.ensures.items (put_as c.extend_from_slice.new.self.items c.in_ok-extend_from_slice-2.ensures.items c.name.ensures))
    c.in_err-push.ensures.items))

pub returns-in_err-extend_from_slice-3-clause-kept : goal.returns-in_err-extend_from_slice-3-clause-kept
returns-in_err-extend_from_slice-3-clause-kept c =
    let out = c.args.out.now.items in
    let name = name_of c.args.conf.now.types c.args.slot.now.type_id in
    let kind = kind_name c.args.slot.now.kind in
    on_err_too c.from_residual-in_err-extend_from_slice-3.result
    (begun_as out c.extend_from_slice-3.new.self.items
    (ap (λ (text : List ℕ). codes "slot " ++ text) (append_assoc name (space ∷ []) (kind ++ line_feed ∷ []) ∙ sym (append_assoc name (space ∷ kind) (line_feed ∷ []))))
    (part_begun (codes "slot " ++ (name ++ space ∷ [])) (kind ++ line_feed ∷ []) out c.push.new.self.items c.extend_from_slice-3.new.self.items
    (then_put out (codes "slot ") (name ++ space ∷ []) c.in_ok-extend_from_slice.ensures.items
    (then_put c.extend_from_slice.new.self.items name (space ∷ []) (put_as c.extend_from_slice.new.self.items c.in_ok-extend_from_slice-2.ensures.items c.name.ensures) c.in_ok-push.ensures.items))
    c.in_err-extend_from_slice-3.ensures.items))

pub returns-in_err-push-2-clause-kept : goal.returns-in_err-push-2-clause-kept
returns-in_err-push-2-clause-kept c =
    let out = c.args.out.now.items in
    let name = name_of c.args.conf.now.types c.args.slot.now.type_id in
    let kind = kind_name c.args.slot.now.kind in
    on_err_too c.from_residual-in_err-push-2.result
    (part_begun (slot_line c.args.conf.now.types c.args.slot.now) (line_feed ∷ []) out c.extend_from_slice-3.new.self.items _
    (then_put out (codes "slot ") (name ++ space ∷ kind) c.in_ok-extend_from_slice.ensures.items
    (then_put c.extend_from_slice.new.self.items name (space ∷ kind) (put_as c.extend_from_slice.new.self.items c.in_ok-extend_from_slice-2.ensures.items c.name.ensures)
    (then_put c.extend_from_slice-2.new.self.items (space ∷ []) kind c.in_ok-push.ensures.items (put_as c.push.new.self.items c.in_ok-extend_from_slice-3.ensures.items (c.as_bytes.ensures.value ∙ c.kind_name.ensures)))))
    c.in_err-push-2.ensures.items)
