use Rattle.std.proofs.Common.{true, string_bytes}
use Rattle.std.proofs.lemmas.Map.Text.{btree_set_updates_text}
use Rattle.cpl_rules.proofs.KnownNames.{knows-Data, knows-Mesh, knows-Participant, knows-Watch, knows-CaseMesh}
use Rattle.cpl_rules.proofs.names.Names.add.Goals as goal

pub returns-in_ok-insert-in-Data-clause-known : goal.returns-in_ok-insert-in-Data-clause-known
returns-in_ok-insert-in-Data-clause-known c =
    let name = string_bytes c.args.name in
    rw c.in-Data.is (knows-Data c.args.self.now c.insert.new.self name (btree_set_updates_text name c.args.self.now.of_data c.insert.new.self true c.in_ok-insert-in-Data.ensures.updates))

pub returns-in_ok-insert-in-Mesh-clause-known : goal.returns-in_ok-insert-in-Mesh-clause-known
returns-in_ok-insert-in-Mesh-clause-known c =
    let name = string_bytes c.args.name in
    rw c.in-Mesh.is (knows-Mesh c.args.self.now c.insert-in-Mesh.new.self name (btree_set_updates_text name c.args.self.now.of_meshes c.insert-in-Mesh.new.self true c.in_ok-insert-in-Mesh.ensures.updates))

pub returns-in_ok-insert-in-Participant-clause-known : goal.returns-in_ok-insert-in-Participant-clause-known
returns-in_ok-insert-in-Participant-clause-known c =
    let name = string_bytes c.args.name in
    rw c.in-Participant.is (knows-Participant _ c.args.self.now c.insert-in-Participant.new.self name (btree_set_updates_text name c.args.self.now.of_participants c.insert-in-Participant.new.self true c.in_ok-insert-in-Participant.ensures.updates))

pub returns-in_ok-insert-in-Watch-clause-known : goal.returns-in_ok-insert-in-Watch-clause-known
returns-in_ok-insert-in-Watch-clause-known c =
    let name = string_bytes c.args.name in
    rw c.in-Watch.is (knows-Watch c.args.self.now c.insert-in-Watch.new.self name (btree_set_updates_text name c.args.self.now.of_watches c.insert-in-Watch.new.self true c.in_ok-insert-in-Watch.ensures.updates))

pub returns-in_ok-insert-in-CaseMesh-clause-known : goal.returns-in_ok-insert-in-CaseMesh-clause-known
returns-in_ok-insert-in-CaseMesh-clause-known c =
    let name = string_bytes c.args.name in
    rw c.in-CaseMesh.is (knows-CaseMesh c.args.self.now c.insert-in-CaseMesh.new.self name (btree_set_updates_text name c.args.self.now.of_case_meshes c.insert-in-CaseMesh.new.self true c.in_ok-insert-in-CaseMesh.ensures.updates))
