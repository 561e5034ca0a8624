mod BlocksBehind
