-- What the bytes of a text frame say, and the bytes that say it.
use Rattle.std.specs.Prelude.{ℕ, List, min, ◌-◌, ◌^◌}
use Rattle.serde_json.specs.Written.{compact_text}
use Rattle.nt_control.specs.declared.message.ClientMsg.{ClientMsg}
use Rattle.nt_control.specs.declared.message.ServerMsg.{ServerMsg}
use Rattle.nt_control.specs.Elements.{tree_in, elements_of, said, passed_over}
use Rattle.nt_control.specs.Client.{client_message, client_tree}
use Rattle.nt_control.specs.Server.{server_message, server_tree}

-- ---- frames of a client

-- the messages that a frame says, in order
unfoldable pub said_in : List ℕ → List ClientMsg
said_in text = said client_message (elements_of (tree_in text))

-- how many of its elements are no message, as far as a u32 counts
unfoldable pub ignored_in : List ℕ → ℕ
ignored_in text = min (passed_over client_message (elements_of (tree_in text))) (2 ^ 32 - 1)

-- the frame that says these messages
unfoldable pub client_text : List ClientMsg → List ℕ
client_text msgs = compact_text (client_tree msgs)

-- ---- frames of a server

-- the messages that a frame says, in order
unfoldable pub told_in : List ℕ → List ServerMsg
told_in text = said server_message (elements_of (tree_in text))

-- how many of its elements are no message, as far as a u32 counts
unfoldable pub untold_in : List ℕ → ℕ
untold_in text = min (passed_over server_message (elements_of (tree_in text))) (2 ^ 32 - 1)

-- the frame that says these messages
unfoldable pub server_text : List ServerMsg → List ℕ
server_text msgs = compact_text (server_tree msgs)
