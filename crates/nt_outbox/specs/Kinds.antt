-- What a message tells.
use Rattle.nt_outbox.specs.declared.key.Kind as code
use Rattle.nt_outbox.specs.declared.key.Kind.TheVariants as kind
use Rattle.nt_rules.specs.outbox.Keys.{Kind, Of_end, Of_publish, Of_setting, Of_topic, Of_value}

abbrev pub kind_of : code.Kind → Kind
kind_of kind.End = Of_end
kind_of kind.Publish = Of_publish
kind_of kind.Setting = Of_setting
kind_of kind.Topic = Of_topic
kind_of kind.Value = Of_value
