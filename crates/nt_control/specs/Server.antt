-- What a server says ("Server to Client Messages").
use Rattle.std.specs.Prelude.{ℕ, ℤ, List, Bool, Option, Some, None, map, option_and_then, bytes_eq, codes, if◌then◌else◌}
use Rattle.serde_json.specs.Data.{Data, null, string, array, Members, no_members, member}
use Rattle.serde_json.specs.Find.{get_member}
use Rattle.serde_json.specs.View.{items_of}
use Rattle.nt_topics.specs.Names.{type_name}
use Rattle.nt_topics.specs.Properties.{update_of}
use Rattle.nt_control.specs.declared.message.ServerMsg.{ServerMsg}
use Rattle.nt_control.specs.declared.message.ServerMsg.TheVariants.{Announce, Unannounce, Properties}
use Rattle.nt_control.specs.Elements.{call_of, element}
use Rattle.nt_control.specs.Params.{text_at, integer_at, integer_if, flag_if, properties_if, whole, integer_member, flag_member}

-- ---- read

-- an announce, where all of it is there
abbrev pub announce : Option (List ℕ) → Option ℤ → Option (List ℕ) → Option (Option ℤ) → Option Data
    → Option ServerMsg
announce (Some name) (Some id) (Some typ) (Some pubuid) (Some props) =
    Some (Announce name id typ pubuid props)
announce _ _ _ _ _ = None

-- the announce of these params ("Topic Announcement Message")
abbrev pub announce_of : Members → Option ServerMsg
announce_of params =
    announce
    (text_at (codes "name") params)
    (integer_at (codes "id") params)
    (option_and_then type_name (text_at (codes "type") params))
    (integer_if (get_member (codes "pubuid") params))
    (properties_if (get_member (codes "properties") params))

-- an unannounce, where all of it is there
abbrev pub unannounce : Option (List ℕ) → Option ℤ → Option ServerMsg
unannounce (Some name) (Some id) = Some (Unannounce name id)
unannounce _ _ = None

-- the unannounce of these params ("Topic Removed Message")
abbrev pub unannounce_of : Members → Option ServerMsg
unannounce_of params = unannounce (text_at (codes "name") params) (integer_at (codes "id") params)

-- a change of properties, where all of it is there
abbrev pub properties : Option (List ℕ) → Option Bool → Option Data → Option ServerMsg
properties (Some name) (Some ack) (Some update) = Some (Properties name ack update)
properties _ _ _ = None

-- the change of properties of these params ("Properties Update Message")
abbrev pub properties_of : Members → Option ServerMsg
properties_of params =
    properties
    (text_at (codes "name") params)
    (flag_if (get_member (codes "ack") params))
    (option_and_then update_of (get_member (codes "update") params))

-- the message of a method with these params
abbrev pub server_call : List ℕ → Members → Option ServerMsg
server_call method params =
    if bytes_eq method (codes "announce") then announce_of params
    else if bytes_eq method (codes "unannounce") then unannounce_of params
    else if bytes_eq method (codes "properties") then properties_of params
    else None

-- the message that an element is
abbrev pub server_message : Data → Option ServerMsg
server_message d = option_and_then (λ c. server_call c.0 c.1) (call_of d)

-- ---- written

-- the element that says a message, with its keys in byte order
abbrev pub server_element : ServerMsg → Data
server_element (Announce name id typ pubuid props) =
    element (codes "announce")
    (member (codes "id") (whole id)
    (member (codes "name") (string name)
    (member (codes "properties") props
    (integer_member (codes "pubuid") pubuid
    (member (codes "type") (string typ) no_members)))))
server_element (Unannounce name id) =
    element (codes "unannounce")
    (member (codes "id") (whole id)
    (member (codes "name") (string name) no_members))
server_element (Properties name ack update) =
    element (codes "properties")
    (flag_member (codes "ack") ack
    (member (codes "name") (string name)
    (member (codes "update") update no_members)))

-- the tree of a frame that says these messages
abbrev pub server_tree : List ServerMsg → Data
server_tree msgs = array (items_of (map server_element msgs))

-- the object that a message carries, if any
abbrev pub server_object : ServerMsg → Data
server_object (Announce name id typ pubuid props) = props
server_object (Unannounce name id) = null
server_object (Properties name ack update) = update
