-- What a client says ("Client to Server Messages").
use Rattle.std.specs.Prelude.{ℕ, ℤ, List, Option, Some, None, map, option_map, option_and_then, bytes_eq, codes, if◌then◌else◌}
use Rattle.serde_json.specs.Data.{Data, null, string, array, object, Members, no_members, member}
use Rattle.serde_json.specs.Find.{get_member}
use Rattle.serde_json.specs.View.{items_of}
use Rattle.nt_topics.specs.Names.{topic_name, type_name}
use Rattle.nt_topics.specs.Properties.{update_of}
use Rattle.nt_subs.specs.declared.sub.Options.{Options}
use Rattle.nt_control.specs.declared.message.ClientMsg.{ClientMsg}
use Rattle.nt_control.specs.declared.message.ClientMsg.TheVariants.{Publish, Unpublish, SetProps, Subscribe, Unsubscribe}
use Rattle.nt_control.specs.Elements.{call_of, element}
use Rattle.nt_control.specs.Params.{text_at, integer_at, properties_if, texts_at, options_if, whole, text_items, option_members}

-- ---- read

-- a publish, where all of it is there
abbrev pub publish : Option (List ℕ) → Option ℤ → Option (List ℕ) → Option Data → Option ClientMsg
publish (Some name) (Some uid) (Some typ) (Some props) = Some (Publish name uid typ props)
publish _ _ _ _ = None

-- the publish of these params ("Publish Request Message")
abbrev pub publish_of : Members → Option ClientMsg
publish_of params =
    publish
    (option_and_then topic_name (text_at (codes "name") params))
    (integer_at (codes "pubuid") params)
    (option_and_then type_name (text_at (codes "type") params))
    (properties_if (get_member (codes "properties") params))

-- the unpublish of these params ("Publish Release Message")
abbrev pub unpublish_of : Members → Option ClientMsg
unpublish_of params = option_map Unpublish (integer_at (codes "pubuid") params)

-- a change of properties, where all of it is there
abbrev pub set_props : Option (List ℕ) → Option Data → Option ClientMsg
set_props (Some name) (Some update) = Some (SetProps name update)
set_props _ _ = None

-- the change of properties of these params ("Set Properties Message")
abbrev pub set_props_of : Members → Option ClientMsg
set_props_of params =
    set_props
    (option_and_then topic_name (text_at (codes "name") params))
    (option_and_then update_of (get_member (codes "update") params))

-- a subscription, where all of it is there
abbrev pub subscribe : Option ℤ → Option (List (List ℕ)) → Option Options → Option ClientMsg
subscribe (Some uid) (Some names) (Some options) =
    Some (Subscribe uid (record { names = names; options = options }))
subscribe _ _ _ = None

-- the subscription of these params ("Subscribe Message")
abbrev pub subscribe_of : Members → Option ClientMsg
subscribe_of params =
    subscribe
    (integer_at (codes "subuid") params)
    (texts_at (codes "topics") params)
    (options_if (get_member (codes "options") params))

-- the unsubscribe of these params ("Unsubscribe Message")
abbrev pub unsubscribe_of : Members → Option ClientMsg
unsubscribe_of params = option_map Unsubscribe (integer_at (codes "subuid") params)

-- the message of a method with these params
abbrev pub client_call : List ℕ → Members → Option ClientMsg
client_call method params =
    if bytes_eq method (codes "publish") then publish_of params
    else if bytes_eq method (codes "unpublish") then unpublish_of params
    else if bytes_eq method (codes "setproperties") then set_props_of params
    else if bytes_eq method (codes "subscribe") then subscribe_of params
    else if bytes_eq method (codes "unsubscribe") then unsubscribe_of params
    else None

-- the message that an element is
abbrev pub client_message : Data → Option ClientMsg
client_message d = option_and_then (λ c. client_call c.0 c.1) (call_of d)

-- ---- written

-- the element that says a message, with its keys in byte order
abbrev pub client_element : ClientMsg → Data
client_element (Publish name uid typ props) =
    element (codes "publish")
    (member (codes "name") (string name)
    (member (codes "properties") props
    (member (codes "pubuid") (whole uid)
    (member (codes "type") (string typ) no_members))))
client_element (Unpublish uid) =
    element (codes "unpublish") (member (codes "pubuid") (whole uid) no_members)
client_element (SetProps name update) =
    element (codes "setproperties")
    (member (codes "name") (string name)
    (member (codes "update") update no_members))
client_element (Subscribe uid sub) =
    element (codes "subscribe")
    (member (codes "options") (object (option_members sub.options))
    (member (codes "subuid") (whole uid)
    (member (codes "topics") (text_items sub.names) no_members)))
client_element (Unsubscribe uid) =
    element (codes "unsubscribe") (member (codes "subuid") (whole uid) no_members)

-- the tree of a frame that says these messages
abbrev pub client_tree : List ClientMsg → Data
client_tree msgs = array (items_of (map client_element msgs))

-- the object that a message carries, if any
abbrev pub client_object : ClientMsg → Data
client_object (Publish name uid typ props) = props
client_object (SetProps name update) = update
client_object _ = null
