-- How deep a written frame nests.
use Rattle.std.proofs.Common.{◌≤◌, ℕ, List, [], ◌∷◌, Bool, true, false, Some, None, map, arith}
use Rattle.std.proofs.lemmas.List.Elements.{All-head, All-tail}
use Rattle.std.specs.List.{All}
use Rattle.serde_json.specs.Data.{Data, string, depth, items_depth, members_depth}
use Rattle.serde_json.specs.Read.{max_depth}
use Rattle.serde_json.specs.View.{items_of}
use Rattle.nt_control.specs.declared.message.ClientMsg.{ClientMsg}
use Rattle.nt_control.specs.declared.message.ClientMsg.TheVariants.{Publish, Unpublish, SetProps, Subscribe, Unsubscribe}
use Rattle.nt_control.specs.declared.message.ServerMsg.{ServerMsg}
use Rattle.nt_control.specs.declared.message.ServerMsg.TheVariants.{Announce, Unannounce, Properties}
use Rattle.nt_control.specs.Params.{option_members}
use Rattle.nt_control.specs.Client.{client_element, client_tree, client_object}
use Rattle.nt_control.specs.Server.{server_element, server_tree, server_object}

-- texts don't nest
items_depth-texts : (texts : List (List ℕ)) → items_depth (items_of (map string texts)) ≤ 0
items_depth-texts [] = omega arith
items_depth-texts (t ∷ texts) = let later = items_depth-texts texts in omega arith

-- flags don't nest
flags : (all prefix topicsonly : Bool)
    → members_depth (option_members (record { all = all; topicsonly = topicsonly; prefix = prefix })) ≤ 0
flags true true true = omega arith
flags true true false = omega arith
flags true false true = omega arith
flags true false false = omega arith
flags false true true = omega arith
flags false true false = omega arith
flags false false true = omega arith
flags false false false = omega arith

-- an element nests at most two levels deeper than the object that its message carries
depth-client_element : (m : ClientMsg) → depth (client_object m) ≤ 124 → depth (client_element m) ≤ 126
depth-client_element (Publish name uid typ props) flat = omega arith
depth-client_element (Unpublish uid) flat = omega arith
depth-client_element (SetProps name update) flat = omega arith
depth-client_element (Subscribe uid sub) flat =
    let o = sub.options in
    let names = items_depth-texts sub.names in
    let options = flags o.all o.prefix o.topicsonly in
    omega arith
depth-client_element (Unsubscribe uid) flat = omega arith

-- an element nests at most two levels deeper than the object that its message carries
depth-server_element : (m : ServerMsg) → depth (server_object m) ≤ 124 → depth (server_element m) ≤ 126
depth-server_element (Announce name id typ None props) flat = omega arith
depth-server_element (Announce name id typ (Some uid) props) flat = omega arith
depth-server_element (Unannounce name id) flat = omega arith
depth-server_element (Properties name true update) flat = omega arith
depth-server_element (Properties name false update) flat = omega arith

-- an array of elements nests one level deeper than they do
depth-array : {M : Type 0} (element object : M → Data)
    → ((m : M) → depth (object m) ≤ 124 → depth (element m) ≤ 126)
    → (msgs : List M) → All (λ m. depth (object m) ≤ 124) msgs
    → items_depth (items_of (map element msgs)) ≤ 126
depth-array element object each [] flat = omega arith
depth-array element object each (m ∷ msgs) flat =
    let here = each m (All-head (λ m. depth (object m) ≤ 124) m msgs flat) in
    let later =
    depth-array element object each msgs (All-tail (λ m. depth (object m) ≤ 124) m msgs flat) in
    omega arith

-- a client's frame nests as deep as can be read where what its messages carry nests at most 124 deep
pub depth-client_tree : (msgs : List ClientMsg) → All (λ m. depth (client_object m) ≤ 124) msgs
    → depth (client_tree msgs) ≤ max_depth
depth-client_tree msgs flat =
    let h = depth-array client_element client_object depth-client_element msgs flat in omega arith

-- and so does a server's
pub depth-server_tree : (msgs : List ServerMsg) → All (λ m. depth (server_object m) ≤ 124) msgs
    → depth (server_tree msgs) ≤ max_depth
depth-server_tree msgs flat =
    let h = depth-array server_element server_object depth-server_element msgs flat in omega arith
